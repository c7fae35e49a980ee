pub mod Laws
pub mod PassLaws
