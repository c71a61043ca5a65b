pub mod Sorts
pub mod Stages
pub mod Judge
pub mod WholeLaws
pub mod JudgeLaws
pub mod TextLaws
