pub mod Scanning
pub mod Laws
