pub mod WriteChecks
pub mod Given
pub mod Sized
pub mod GivenLaws
pub mod NameLaws
