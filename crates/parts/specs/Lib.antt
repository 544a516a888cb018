-- Parts: the unit records table by table. Held: their lent slices. Indexed: those of the index, lent to a drop. Copies: the copies that a drop
-- makes. Laws: what the calls leave of the records. Arrival: the store beside a list in order of arrival.
pub mod Parts
pub mod Held
pub mod Indexed
pub mod Copies
pub mod Laws
pub mod Arrival
