-- Finding: the first place at which two tests pass.
pub mod Finding
