-- Basis: where the offset basis is from. Feeding: laws of `feed`.
pub mod Basis
pub mod Feeding
