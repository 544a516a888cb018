-- Parse: which texts are labels, and of which unit.
pub mod Parse
