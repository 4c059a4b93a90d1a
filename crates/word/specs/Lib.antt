-- What a reader must believe of this layer, in this order: `Word`, words in bytes; `Chunk`, the same words as the core goes over them,
-- each of four bytes. `Steps` need not be read.
pub mod Word
pub mod Chunk
pub mod Steps
