-- Assumes nothing.
pub mod Bytes
