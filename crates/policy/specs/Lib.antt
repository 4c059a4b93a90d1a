-- What a reader must believe of this layer, in the order in which to read it. `Steps` need not be read.
pub mod Number
pub mod Set
pub mod Effect
pub mod Epoch
pub mod Comparison
pub mod Policy
pub mod Line
pub mod Result
pub mod Limits
pub mod Fault
pub mod Fill
pub mod Steps
