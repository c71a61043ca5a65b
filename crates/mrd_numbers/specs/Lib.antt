pub mod Little
pub mod Laws
pub mod ToBytesLaws
pub mod ByteLaws
pub mod Stored
pub mod HalfLaws
