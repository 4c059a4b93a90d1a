-- What a reader must believe of this layer. Start with `Report`: the lines that the programs print.
pub mod Report
pub mod Examples
