pub mod Numbers
pub mod Spelled
pub mod Cutting
pub mod UnitLaws
pub mod StandingLaws
pub mod CommandLaws
pub mod BufferLaws
