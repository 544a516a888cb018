-- Numbers: a refusal and its number. Reading: what the answer to question 3 shows. Tests: what a test shows. Whole: a whole head as facts. Asked: what the questions show. Bounds: carried along equations. Opens: a start from its parts.
pub mod Numbers
pub mod Reading
pub mod Tests
pub mod Whole
pub mod Asked
pub mod Bounds
pub mod Opens
