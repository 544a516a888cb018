-- Feeding: the hash of each unit. Ranking: the table is six bits of the hash.
-- Doubles: the rank's exact value, and the Rust's table. Naming: units and their words. SameNames: names that pass the tests.
-- ReadBack, Reading: what a record reads as.
pub mod Feeding
pub mod Ranking
pub mod Doubles
pub mod Naming
pub mod Reading
pub mod SameNames
pub mod ReadBack
