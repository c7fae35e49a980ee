pub mod Kinds
pub mod Laws
pub mod Forms
pub mod Says
pub mod Seen
pub mod Readable
pub mod Making
pub mod Language
