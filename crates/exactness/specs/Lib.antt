-- What a reader must believe of the statements about images, in this order: `Exact`, their own notions; `ImageFault`, why and where bytes
-- are refused; and the table of `Examples`.
pub mod Exact
pub mod ImageFault
pub mod Examples
