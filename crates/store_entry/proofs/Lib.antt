-- Own: the unit is in its record.
pub mod Own
