pub mod Decompilation
pub mod Examples
pub mod TextLaws
