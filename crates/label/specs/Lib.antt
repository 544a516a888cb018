-- Rfc5952: the text of an IPv6 address. Addresses: some that RFC 5952 names. Label: the text of a unit's name. Short: the
-- label of a V6 group as it is printed.
pub mod Rfc5952
pub mod Addresses
pub mod Label
pub mod Short
