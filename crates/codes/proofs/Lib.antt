-- Decoded: nothing is lost in the numbers of a decision.
pub mod Decoded
