-- Addresses: some that RFC 5952 names. Short: the label of a V6 group is its short form. Labels: the text is written.
pub mod Addresses
pub mod Short
pub mod Labels
