-- What a reader must believe of this layer. `Answered` first: what is printed for all of the input (`answers_printed`). `Run` is what a whole run
-- leaves, in the words of the crate stream. `Examples` are rows of what is printed. `Steps` need not be read.
pub mod Answered
pub mod Run
pub mod Examples
pub mod Steps
