pub mod Compare
pub mod CompareLaws
pub mod Comparing
pub mod Exactly
