pub mod Entries
pub mod Sides
pub mod Tested
