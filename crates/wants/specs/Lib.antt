pub mod Bucket
pub mod Held
pub mod Wants
pub mod Laws
