pub mod ActorTexts
mod CommitNames
pub mod CommitTexts
pub mod CommitWrites
mod FirstLine
pub mod FirstParts
pub mod LogLines
pub mod Malformeds
pub mod Offsets
pub mod Spelled
pub mod Surveys
mod TagLines
mod TagTargets
mod TagWrites
pub mod TextObjects
mod Titles
