pub mod StreamSteps
pub mod MemberSteps
pub mod EntrySteps
pub mod SectionSteps
pub mod CharacterSteps
pub mod PlaceSteps
pub mod PrintedPlaces
