-- Notions of the functions of the second mode. No statement speaks of them.
pub mod Trial
