-- What a reader must believe of this layer: `Run`. `Steps` is the mechanism of the functions and need not be read.
pub mod Run
pub mod Steps
