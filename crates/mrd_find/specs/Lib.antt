pub mod Find
pub mod FoundMeaning
pub mod Alike
pub mod FindLaws
