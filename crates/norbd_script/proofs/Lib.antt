mod Chain
mod Staying
mod Living
mod Simulating
mod GroupKinds
mod FromGroups
mod NextLife
