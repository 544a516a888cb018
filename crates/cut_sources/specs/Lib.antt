-- Counted: the rows of counted sources. Held: their lent slices. Sorted: the order of totals. Finding: which one a unit's cuts are counted under. Laws: which sources pruning leaves.
pub mod Sorted
pub mod Counted
pub mod Held
pub mod Laws
pub mod Finding
