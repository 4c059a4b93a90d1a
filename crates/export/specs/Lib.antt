-- What a reader must believe of the answer: `Export`.
pub mod Export
