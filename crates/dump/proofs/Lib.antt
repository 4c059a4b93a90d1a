pub mod Examples
pub mod WordLaws
pub mod PrintedLaws
pub mod Whole
