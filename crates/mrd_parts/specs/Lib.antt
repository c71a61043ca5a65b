pub mod Sought
pub mod PartLaws
