pub mod SameTokens
pub mod SameTrees
pub mod OutlinedTexts
