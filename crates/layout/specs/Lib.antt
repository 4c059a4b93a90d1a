-- What a reader must believe of this layer, in this order: `Header`, the fields of word 0; `Layout`, the image of a policy. `Steps`
-- need not be read.
pub mod Header
pub mod Layout
pub mod Steps
