pub mod KeepLaws
pub mod EchoLaws
