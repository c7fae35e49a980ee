pub mod Entering
pub mod Scopes
pub mod Edges
pub mod Phases
pub mod Laws
pub mod Held
