pub mod PartLaws
pub mod Lines
pub mod Lends
pub mod Negotiated
pub mod Named
pub mod Requested
