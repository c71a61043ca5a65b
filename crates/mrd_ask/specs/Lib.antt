pub mod Replies
pub mod Questions
pub mod Shown
pub mod ShownLaws
pub mod RefusalLaws
pub mod Belief
pub mod BeliefLaws
