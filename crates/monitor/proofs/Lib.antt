pub mod DecideLaws
pub mod EventLaws
pub mod Examples
pub mod FewLaws
pub mod TrialLaws
