-- Fnv: the hash of RFC 9923.
pub mod Fnv
