-- One bucket and one record. Floats: the operations in units. Runs: the clock, and histories seen as other histories. Tokens: the bound on a bucket. Paying: a cost taken off. Held: a record, call by call.
-- Weighing: the numbers of a judgement. Credit: the bound on a record. Spared: no over share. Level: a stored level gives a lawful fill.
-- The model of the store. Demand: all dimensions, one record. Rows: rows found by a name. Places: sweeps by place. Store: the demand over the model. Bridge: `verdict::judged` is the model's judgement. Example: document 01's run.
-- The real definitions. View, Back: the lent rows as the model's; what is put is read back. Stored, Behind: what holds of the rows; other tags behind theirs. Found, Find, Put, Added, Dropped: a search, a put, a newcomer, visits.
-- Scanned, Entry: a scan of a judgement; the record that a call uses. Tied: the tie, kept by a scan. Outcome, Judging: a judgement. Cutting: a cut. Changing: new rates. Begun: a start. Stepped: a judgement of the list.
-- Calls: DEMAND 3, of every list of calls. Changes: the rates in force; runs at one rate. Spans, Steady, Lasting: no list leaves a state that refuses.
pub mod Floats
pub mod Runs
pub mod Tokens
pub mod Paying
pub mod Held
pub mod Weighing
pub mod Credit
pub mod Spared
pub mod Level
pub mod Demand
pub mod Rows
pub mod Places
pub mod Store
pub mod Bridge
pub mod Example
pub mod View
pub mod Back
pub mod Stored
pub mod Behind
pub mod Found
pub mod Find
pub mod Put
pub mod Added
pub mod Dropped
pub mod Scanned
pub mod Entry
pub mod Tied
pub mod Outcome
pub mod Judging
pub mod Cutting
pub mod Changing
pub mod Begun
pub mod Stepped
pub mod Calls
pub mod Changes
pub mod Spans
pub mod Steady
pub mod Lasting
