pub mod Sources
pub mod Unknown
