pub mod StackLaws
pub mod Laws
pub mod TurnLaws
