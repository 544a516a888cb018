pub mod Walking
pub mod Texts
pub mod Clear
pub mod Reading
pub mod Taking
