-- Parts: the lists and the offsets. Whole: a start and a scan. Stays: a judgement and a cut, and the statement. Heads: the head by itself. Ranges: trims and levels. Rates: new rates.
-- Lasting: what holds over the steps of the calls holds over the calls. Homed: the store stays well, and what a search gives.
pub mod Parts
pub mod Whole
pub mod Stays
pub mod Heads
pub mod Ranges
pub mod Rates
pub mod Lasting
pub mod Homed
