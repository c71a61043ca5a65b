pub mod AtCursor
pub mod RecordLaws
