-- Mechanism of the code, which laws tie to the definitions above: a reader need not believe it. `Sizes` are those of the buffers, `Held` is
-- what is held of a line, `Answer` the answer to a question on an image, and `Left` what is answered from there on.
pub mod Sizes
pub mod Held
pub mod Place
pub mod Answer
pub mod Left
