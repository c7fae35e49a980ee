pub mod Items
pub mod Lines
pub mod Sections
pub mod Texts
