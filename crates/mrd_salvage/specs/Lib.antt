pub mod Salvage
pub mod Examples
pub mod Reached
pub mod ReachLaws
pub mod Saved
pub mod Torn
