pub mod Lengths
pub mod Writing
