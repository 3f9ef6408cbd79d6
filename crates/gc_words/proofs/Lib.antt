pub mod LayoutLaws
pub mod WordLaws
