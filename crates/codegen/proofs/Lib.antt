pub mod AcceptedLaws
pub mod Compilation
pub mod CompileLaws
pub mod PutLaws
pub mod RoomLaws
