-- Laying: a list laid over another. Entering: an entry that comes in. Closing: entries that close up. Whole: where parts begin. Places: what stands where. Down: numbers counted down.
pub mod Laying
pub mod Entering
pub mod Closing
pub mod Whole
pub mod Places
pub mod Down
