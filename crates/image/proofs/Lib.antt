pub mod GivenLaws
pub mod HeldLaws
pub mod LoadLaws
pub mod PartLaws
pub mod WholeLaws
