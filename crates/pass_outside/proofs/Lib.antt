pub mod Lists
pub mod Outside
pub mod Children
pub mod InTrees
pub mod PassIncludes
pub mod ConstantsPut
pub mod LeftBy
