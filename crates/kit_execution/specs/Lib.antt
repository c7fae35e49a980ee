pub mod Obeying
pub mod Moving
pub mod Numberings
pub mod Outcomes
pub mod Laws
