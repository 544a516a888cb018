pub mod Scanning
pub mod Judgements
pub mod Laws
