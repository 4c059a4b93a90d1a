pub mod TrimLaws
pub mod TellLaws
pub mod FindLaws
pub mod WhyLaws
pub mod SizeLaws
pub mod Examples
