-- What a reader must believe of this layer, in the order in which to read it. `Steps` need not be read.
pub mod Byte
pub mod Lines
pub mod Number
pub mod Token
pub mod Steps
