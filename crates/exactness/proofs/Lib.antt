pub mod Exact
pub mod Examples
pub mod ImageLaws
pub mod PartLines
pub mod Swaps
