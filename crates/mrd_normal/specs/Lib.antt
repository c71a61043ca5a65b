pub mod NormalOutput
pub mod MessageOf
pub mod Putting
pub mod NormalOutputLaws
