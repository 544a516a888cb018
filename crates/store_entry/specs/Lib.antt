-- Entering: the record that a call uses. Own: it is the unit's.
pub mod Entering
pub mod Own
