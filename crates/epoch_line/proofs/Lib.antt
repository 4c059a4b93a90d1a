pub mod EpochLaws
pub mod ItemLaws
