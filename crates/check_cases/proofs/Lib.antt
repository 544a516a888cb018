-- Levels: the level of a histogram filled in one dimension. Fresh: a fresh unit's want and verdict. Cases: the table.
pub mod Levels
pub mod Fresh
pub mod Cases
