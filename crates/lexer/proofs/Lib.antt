pub mod ClassLaws
pub mod DigitLaws
pub mod HexLaws
pub mod KeywordLaws
pub mod LeadingLaws
pub mod RunLaws
pub mod TokenLaws
