pub mod Meaning
pub mod Taken
pub mod Decided
pub mod Fetched
pub mod Examples
