pub mod OwnNames
mod PassLists
mod Refusals
mod WhatPassesLeave
mod LeftOutside
pub mod HandlesTold
pub mod HeadsKept
mod ProgramsOfModules
mod CutLists
