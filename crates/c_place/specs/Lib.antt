pub mod PlacedStruct
