pub mod RowNames
pub mod RowFrames
pub mod OperandEdits
pub mod SuccessorEdits
pub mod RowReads
