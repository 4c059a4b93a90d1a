-- What a reader must believe of the whole claims, in this order: `Machine`, the reference machine; `Claims`, calls of the compiler and
-- of the decompiler; `Decisions`, what is asked of a decision in each mode; `Explanations`, of an explanation; `Output`, what the engine's
-- program would print if the machine answered; `Together`, what the one function here answers; and the table of `Examples`. The laws of
-- src/*_laws.rt say them of the definitions in the contracts of the working functions.
pub mod Machine
pub mod Claims
pub mod Decisions
pub mod Explanations
pub mod Together
pub mod Output
pub mod Examples
