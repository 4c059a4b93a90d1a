pub mod RunLaws
pub mod TestLaws
pub mod FetchLaws
pub mod RuleLaws
pub mod ConstraintLaws
pub mod TriggerLaws
pub mod WaitLaws
pub mod StandLaws
