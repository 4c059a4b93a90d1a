-- What the parts of a line are read as is in the lexer's `Token`. Here is what the functions find in front of a text, which need
-- not be read.
pub mod Steps
