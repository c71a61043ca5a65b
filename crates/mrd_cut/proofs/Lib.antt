pub mod OrderRuleLaws
pub mod WalkedLaws
pub mod AcceptedLaws
pub mod CutPlacesLaws
pub mod InsideLaws
pub mod RefusedLaws
pub mod StepsLaws
