-- What a reader must believe of this layer, in this order: `Operation`, the numbers of operations and relations; `Fields`, the fields
-- of a word; `Parts`, the words of the parts of a line; `Said`, what a word says; `Whole`, words that are whole lines.
pub mod Operation
pub mod Fields
pub mod Parts
pub mod Said
pub mod Whole
