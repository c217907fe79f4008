pub mod Examples
pub mod ListLaws
pub mod PoolLaws
pub mod RoomLaws
