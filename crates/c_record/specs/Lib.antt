pub mod RecordStructs
pub mod PartNumbers
pub mod PartNumberLaws
