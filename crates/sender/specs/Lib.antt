-- Sender: a unit's bytes, hash, rank, table and words, and what a record reads as. Laws: of what a record reads as.
pub mod Sender
pub mod Laws
