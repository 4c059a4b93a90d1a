-- What a reader must believe of this layer. Start with `Number`: the digits of a number. `Sink` says what sinks
-- take, and `Buffer` where bytes go in a lent buffer.
pub mod Buffer
pub mod Number
pub mod Sink
pub mod Examples
