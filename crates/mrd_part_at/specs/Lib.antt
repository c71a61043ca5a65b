pub mod PartAt
pub mod PartAtLaws
