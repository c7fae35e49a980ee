pub mod Any
pub mod Forms
