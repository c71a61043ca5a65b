pub mod NoRefusal
pub mod ZeroLaws
