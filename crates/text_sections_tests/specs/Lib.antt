pub mod Saids
