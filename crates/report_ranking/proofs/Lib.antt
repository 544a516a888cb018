-- Ties: strings in their order, and sources of one total. Totals: the total decides first. Ordering: the order of the sources is strict and total. Keys: labels compared by words. Choosing: one source more looked at. Taken: sources taken for keys by their words. Earliest: the earliest after a place, by some tags. Found: the earliest by words is that by tags, where its tag is its own. Naming: the sources named are the front of the sorted list. Laws: the order and the front, together.
pub mod Ties
pub mod Totals
pub mod Ordering
pub mod Keys
pub mod Choosing
pub mod Taken
pub mod Earliest
pub mod Found
pub mod Naming
pub mod Laws
