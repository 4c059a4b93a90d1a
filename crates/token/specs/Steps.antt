-- Mechanism of the code, which laws tie to the lexer's definitions: a reader need not believe it.
pub mod PartIn
