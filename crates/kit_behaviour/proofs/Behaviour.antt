-- Runs, simulations, and what each step of each pass needs.
pub mod RunLemmas
pub mod Simulation
pub mod SameEffects
pub mod FrameLemmas
pub mod EdgeLemmas
pub mod SizeLemmas
pub mod Iteration
pub mod FiniteLists
pub mod RenamingLemmas
