pub mod LineLaws
pub mod EndLaws
pub mod InputLaws
pub mod WaitLaws
