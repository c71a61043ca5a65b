pub mod Order
pub mod Cursors
pub mod OrderLaws
