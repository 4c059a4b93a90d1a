-- What a reader must believe of this layer: `Epoch`, what an epoch line says and what it is refused for. `Steps` need not be read.
pub mod Epoch
pub mod Steps
