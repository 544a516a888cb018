-- Behind: the tags from a place on, lent and put back. Tallying: a count from its parts.
pub mod Behind
pub mod Tallying
