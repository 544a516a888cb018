-- Walking: the wants of a use. Visiting: the wants that a visit of a table adds. Laws: whose they are.
pub mod Visiting
pub mod Laws
pub mod Walking
