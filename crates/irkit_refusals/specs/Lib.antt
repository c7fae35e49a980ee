pub use Rattle.irkit_streams.specs.Ends
pub mod Texts
pub mod Refusals
