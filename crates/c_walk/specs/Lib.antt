pub mod WalkStructs
