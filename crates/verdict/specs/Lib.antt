pub mod Verdict
pub mod Laws
pub mod Rules
pub mod Says
