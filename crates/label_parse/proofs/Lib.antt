-- Fields, Reading: the parts of a text. Parsing: exactly the labels are taken.
pub mod Fields
pub mod Reading
pub mod Parsing
