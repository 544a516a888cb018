pub mod Doubles
pub mod Ranges
pub mod Laws
