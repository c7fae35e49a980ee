pub mod TokenLongest
pub mod TokenSteps
pub mod TokenUnique
pub mod FirstFault
