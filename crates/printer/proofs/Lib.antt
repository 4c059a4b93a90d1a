pub mod DecimalLaws
pub mod Examples
pub mod LengthLaws
pub mod Longest
pub mod ParseLaws
pub mod Printing
pub mod SplitLaws
pub mod ValueLaws
