pub mod Room
pub mod PutLaws
