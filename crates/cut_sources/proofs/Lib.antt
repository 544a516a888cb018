-- Sorted: the entry at a quarter of the sorted totals, by counting. Pruning: which sources stay. Reading: finding a source by what it reads as. Tagged: the tags, source by source. Laws: which sources pruning leaves.
pub mod Sorted
pub mod Pruning
pub mod Reading
pub mod Tagged
pub mod Laws
