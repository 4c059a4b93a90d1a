-- Notions of the functions, which nobody need believe.
pub mod Test
pub mod Wait
