-- Mechanism of the code, which laws tie to the definitions above: a reader need not believe it.
pub mod Heads
pub mod Size
pub mod Sums
