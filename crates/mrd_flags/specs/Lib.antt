pub mod Flags
pub mod FlagNames
pub mod BitLaws
pub mod BitMaskLaws
pub mod FlagLaws
