-- Judging: a judgement. Lending: the memory that it is lent.
pub mod Judging
pub mod Lending
