-- What a reader must believe of this layer: `Decompile`, then `Written`, and the table of `Examples`. `Steps` need not be read.
pub mod Decompile
pub mod Written
pub mod Examples
pub mod Steps
