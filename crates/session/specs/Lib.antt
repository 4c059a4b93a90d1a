-- What a reader must believe of this layer. `Printed` first: what the engine prints for all of its input (`printed`) and what of it is
-- due before the end (`due`). `Listed` is what the compiler prints for a text or for two; `Texts` what its run on two texts leaves, in the
-- words of the crate stream, which say what the other runs leave. `Examples` are rows of what is printed. `Steps` need not be read.
pub mod Printed
pub mod Listed
pub mod Texts
pub mod Examples
pub mod Steps
