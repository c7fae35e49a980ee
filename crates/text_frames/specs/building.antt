pub mod Kept
pub mod Loose
pub mod Made
pub mod Inside
pub mod Later
pub mod Trees
pub mod Came
