pub mod WrittenStructs
