pub mod PartLemmas
pub mod IdLemmas
mod Offered
mod GrammarLemmas
mod RestLemmas
mod EditLemmas
pub mod GraftLemmas
pub mod NameTests
pub mod NameLemmas
pub mod LockPaths
mod RestRowLemmas
mod RowLemmas
mod FirstRowLemmas
mod LogLemmas
pub mod StepLemmas
pub mod RunsAgree
pub mod RecoveryLemmas
pub mod FreshLemmas
pub mod RecoveredLemmas
pub mod RoundLemmas
pub mod Joining
pub mod RunsTold
mod StateLemmas
pub mod FormatLemmas
pub mod AfterFirstLemmas
mod OneFileLemmas
mod StreamRowLemmas
mod GraftRowLemmas
pub mod EntryLemmas
mod FirstLines
mod AlikeLemmas
mod OnePair
pub mod OnePairLines
pub mod OnePairTexts
mod PastLemmas
pub mod WholeCommands
pub mod WholeForms
pub mod WholeGrowth
pub mod WholeItems
pub mod WholeLists
pub mod WholeNames
pub mod WholePaths
pub mod WholeReads
pub mod WholeRoots
pub mod WholeSteps
pub mod WholeStored
pub mod WholeStores
pub mod WholeTexts
pub mod PlaceLemmas
pub mod ClosedLemmas
pub mod FailureLemmas
