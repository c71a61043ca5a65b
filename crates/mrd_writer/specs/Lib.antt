pub mod Write
pub mod Sound
pub mod Written
pub mod WriteLaws
pub mod ReadBack
pub mod OwnContents
pub mod Disregarded
