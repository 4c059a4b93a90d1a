-- What a reader must believe of this layer: `Compile`, then `Written`. `Steps` need not be read.
pub mod Compile
pub mod Written
pub mod Steps
