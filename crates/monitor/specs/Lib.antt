-- What a reader must believe of this layer: `Decision`, and `State`. `Steps` need not be read.
pub mod Decision
pub mod State
pub mod Steps
pub mod Examples
