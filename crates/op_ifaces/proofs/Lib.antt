pub mod SingleBlocks
pub mod AroundBodies
