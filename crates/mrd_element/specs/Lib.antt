pub mod Element
pub mod ValueMeaning
pub mod Letters
pub mod LetterLaws
pub mod Pieces
pub mod PieceLaws
pub mod FloatLaws
pub mod ElementLaws
