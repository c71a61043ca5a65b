pub mod Entries
pub mod Counted
pub mod File
pub mod FileLaws
pub mod Filling
