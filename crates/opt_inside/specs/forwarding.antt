pub mod Local
pub mod Tops
pub mod Fits
