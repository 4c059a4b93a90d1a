-- Mechanism of the code: a reader need not believe it.
pub mod Checks
pub mod Part
