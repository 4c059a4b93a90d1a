pub mod CheckLaws
pub mod HeaderLaws
pub mod LayoutLaws
pub mod SumLaws
pub mod SumsLaws
pub mod SwapLaws
pub mod WeightLaws
