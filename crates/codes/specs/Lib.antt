pub mod Numbers
pub mod Decisions
pub mod Decoded
