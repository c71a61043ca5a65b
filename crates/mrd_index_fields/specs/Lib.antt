pub mod IndexFields
