pub mod ConstantLaws
pub mod HeadLaws
pub mod PartLaws
pub mod PatternLaws
pub mod RelationLaws
