pub mod Waverer
