pub mod Taping
pub mod Playing
pub mod Handing
