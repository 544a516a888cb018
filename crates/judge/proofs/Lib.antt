-- Passing: a judgement on a record. Bounding: a judgement of a bounded relay.
pub mod Passing
pub mod Bounding
