-- Mechanism of the code, which no contract of a public function cites: a reader need not believe it. `Sizes` is that of the buffer, `Lines` what
-- is printed from one of the lines on.
pub mod Sizes
pub mod Lines
