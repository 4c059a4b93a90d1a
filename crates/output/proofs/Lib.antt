pub mod AppendLaws
pub mod DecimalLaws
pub mod Examples
pub mod HexLaws
pub mod RoomLaws
pub mod SinkLaws
