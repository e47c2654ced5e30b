pub mod UsualLaws
