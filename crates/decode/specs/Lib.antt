-- What a reader must believe of this layer, in this order: `Stands`, which line stands where words begin; `Decode`, that line as a
-- function, which laws tie to `Stands`. `Steps` need not be read.
pub mod Stands
pub mod Decode
pub mod Steps
