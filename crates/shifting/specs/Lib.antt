-- Shifting: entries that come in, and that close up. Offsets: where their parts begin.
pub mod Shifting
pub mod Offsets
