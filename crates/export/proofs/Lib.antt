-- Laws of the answer as numbers.
pub mod ExportLaws
