-- What the functions of this layer do part by part. Nothing here needs to be read to believe the statements.
pub mod Value
