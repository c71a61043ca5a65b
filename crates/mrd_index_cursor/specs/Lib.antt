pub mod IndexCursor
pub mod Indexed
