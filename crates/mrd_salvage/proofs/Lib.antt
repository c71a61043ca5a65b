pub mod KeptLaws
pub mod SavedLaws
pub mod LongestLaws
