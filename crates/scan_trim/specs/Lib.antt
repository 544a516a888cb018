pub mod Trimming
pub mod Laws
