-- Turns: loops over windows, turn by turn. Passing: what the questions and the quick test show. Laws, Cases: what specs/Laws and specs/Cases state.
pub mod Turns
pub mod Passing
pub mod Laws
pub mod Cases
