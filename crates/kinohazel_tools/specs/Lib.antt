-- What a reader must believe of the functions for C: `Export`.
pub mod Export
