pub mod Sources
pub mod Taken
pub mod Laws
