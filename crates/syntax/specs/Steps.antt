-- What the reading functions do part by part. Nothing here needs to be read to believe the statements.
pub mod Draft
pub mod Effect
pub mod Outcome
pub mod Judged
