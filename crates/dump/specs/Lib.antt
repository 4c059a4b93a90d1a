-- What a reader must believe of this layer: `Dump`, what the decompiler prints for all of its input (`restored`), with `Examples`, rows of
-- it. What a run leaves is said in the words of the crate stream. `Steps` need not be read.
pub mod Dump
pub mod Examples
pub mod Steps
