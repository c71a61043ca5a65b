pub mod PartStruct
