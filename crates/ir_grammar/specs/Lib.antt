pub mod Grammar
pub mod Table
pub mod Reading
pub mod Run
pub mod Pending
pub mod Nesting
