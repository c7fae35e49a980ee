pub mod Alike
pub mod Outlined
