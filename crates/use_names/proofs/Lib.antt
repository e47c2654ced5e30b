pub mod NameLaws
pub mod HavingLaws
pub mod UseLaws
pub mod HashLaws
