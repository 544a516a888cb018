-- Sifting: a pass that drops, turn by turn. Places: what stands where after one. Clearing: rows cleared. Closing, Squeezing: what a drop is made
-- of. Slots: how often each stands. Keeping, Begun: what holds from a start on. Listing: the store as one list of records. Staying: where what
-- stays stood. Dropping, Inserting, Putting: what is done to the list, and Cleared to the slots. Searching, Apart: what a search reads.
-- Without, Parting, Tables: lists and parts of them. Arrival, Departing, Changing: the store beside a list in order of arrival.
-- Past, Copying, Carrying, Copied: the copies of entries that a drop makes.
pub mod Sifting
pub mod Places
pub mod Clearing
pub mod Closing
pub mod Slots
pub mod Keeping
pub mod Begun
pub mod Passing
pub mod Squeezing
pub mod Past
pub mod Copying
pub mod Carrying
pub mod Behind
pub mod Finding
pub mod Listing
pub mod Staying
pub mod Dropping
pub mod Inserting
pub mod Putting
pub mod Searching
pub mod Apart
pub mod Stale
pub mod Cleared
pub mod Laws
pub mod Without
pub mod Parting
pub mod Tables
pub mod Arrival
pub mod Departing
pub mod Changing
pub mod Copied
