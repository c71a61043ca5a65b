-- Assumes nothing.
pub mod Place
