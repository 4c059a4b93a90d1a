-- The table of examples of what words do.
pub mod Examples
