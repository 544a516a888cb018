-- Handing: a hand-back from its parts. Noting: a cut from its parts.
pub mod Handing
pub mod Noting
