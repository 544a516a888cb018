pub mod Fields
pub mod Script
pub mod Answers
