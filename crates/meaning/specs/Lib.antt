-- Page: what each call means. State: the state that it works on, and its notation. Agrees: the contracts of the program say the same.
-- Named: the record that a call uses names the unit. Numbered: the numbers that a call can answer. Told: the rule of a judgement.
pub mod State
pub mod Page
pub mod Agrees
pub mod Named
pub mod Numbered
pub mod Told
