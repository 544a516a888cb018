pub mod Doubles
pub mod Units
pub mod Extremes
