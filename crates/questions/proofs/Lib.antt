pub mod NameLaws
pub mod LineLaws
pub mod LeftLaws
pub mod Room
pub mod Examples
