-- What a reader must believe of this layer: `Printed`. `Steps` need not be read.
pub mod Printed
pub mod Examples
pub mod Steps
