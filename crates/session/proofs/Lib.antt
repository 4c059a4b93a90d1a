pub mod RunLaws
pub mod LengthLaws
pub mod EpochLaws
pub mod TextLaws
pub mod PhaseLaws
pub mod ListingLaws
pub mod Whole
pub mod Examples
