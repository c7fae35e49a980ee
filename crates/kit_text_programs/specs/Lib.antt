pub mod Laws
pub mod Alike
pub mod Same
pub mod RuleLaws
pub mod Meanings
pub mod SameLaws
