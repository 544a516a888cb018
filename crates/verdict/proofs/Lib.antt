-- Verdicts: a judgement from its parts. Laws: what a judgement does, by its verdict. Lacking: the first dimension that lacks. Says: what the rule says.
pub mod Verdicts
pub mod Laws
mod Lacking
mod Picked
pub mod Says
