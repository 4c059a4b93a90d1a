pub mod ActionLaws
pub mod Examples
pub mod LengthLaws
