-- Mechanism of the code, which its own laws tie to the definitions above: a reader need not believe it.
pub mod Write
