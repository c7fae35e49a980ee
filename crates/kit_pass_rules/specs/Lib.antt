pub mod Worlds
pub mod Names
pub mod Laws
pub mod CutLaws
pub mod ChainLaws
