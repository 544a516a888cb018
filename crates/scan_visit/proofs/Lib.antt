-- Walking: the wants of a use. Turns: a walk, record by record. Staying: a drop leaves the records before the first stale one. Laws: whose wants a visit adds.
pub mod Turns
pub mod Staying
pub mod Laws
pub mod Walking
