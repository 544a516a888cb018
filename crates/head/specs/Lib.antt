pub mod Questions
pub mod Answers
pub mod Start
pub mod Readings
pub mod Bits
pub mod Headed
