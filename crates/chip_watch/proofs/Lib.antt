pub mod SimLaws
pub mod AheadLaws
pub mod SettlingLaws
pub mod OverlayLaws
pub mod SimulatorLaws
pub mod ReadingLaws
pub mod BusLaws
pub mod OpeningLaws
