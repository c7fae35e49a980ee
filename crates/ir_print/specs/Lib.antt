pub mod Formats
pub mod Pieces
pub mod Shown
pub mod Layout
pub mod Printed
pub mod Shapes
pub mod Nested
