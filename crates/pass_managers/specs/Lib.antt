pub mod Behaviour
pub mod Kinds
pub mod Laws
pub mod Running
pub mod lawful
