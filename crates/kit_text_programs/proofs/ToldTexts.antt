pub mod SideBySide
pub mod Near
pub mod ClosedNumbers
pub mod SaidParts
pub mod ToldPieces
pub mod NearHeads
pub mod NearTexts
pub mod OneText
