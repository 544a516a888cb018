pub mod Whole
pub mod Ranges
pub mod Homed
