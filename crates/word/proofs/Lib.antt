pub mod WordLaws
pub mod WriteLaws
pub mod ChunkLaws
