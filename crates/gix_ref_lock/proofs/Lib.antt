pub mod FileMoves
pub mod GivenUp
pub mod Kept
pub mod LockLemmas
pub mod LockPaths
pub mod OnWays
pub mod OpenFaults
pub mod PathLists
pub mod Unlockings
pub mod Worse
mod Progress
mod StepEnds
mod ActMoves
mod ActWays
mod Givings
mod PackedMoves
mod Needed
