-- Mechanism of the code, which no contract of a public function cites: a reader need not believe it. `Sizes` are those of the buffers,
-- `Session` what the engine prints from one of its lines on, and `Compiler` what the compiler prints from there on.
pub mod Sizes
pub mod Session
pub mod Compiler
