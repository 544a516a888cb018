-- Passing: which tags pass a test.
pub mod Passing
