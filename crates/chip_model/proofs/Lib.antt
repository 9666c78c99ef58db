pub mod BitLaws
pub mod MemoryLaws
pub mod PartLaws
pub mod FrameLaws
pub mod ExchangeLaws
pub mod WaveringLaws
