-- What a reader must believe of this layer: `Value`, the line that its parts are.
pub mod Value
