pub mod Counters
pub mod SignedLaws
