pub mod KnownTypes
pub mod SameHandle
pub mod ErasedTypes
pub mod GrownTypes
pub mod ChosenPlaces
pub mod Appending
