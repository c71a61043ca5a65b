pub mod Utf8
pub mod Fold
pub mod FoldLaws
pub mod Examples
pub mod Due
pub mod DueLaws
pub mod Reading
pub mod Whole
