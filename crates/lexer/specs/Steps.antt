-- What the reading functions find in front of a text. Nothing here needs to be read to believe the statements.
pub mod Scan
