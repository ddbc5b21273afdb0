pub mod LogLineLemmas
pub mod LogWriteLemmas
pub mod LogSplitLemmas
pub mod LogWindowLemmas
pub mod LogGivesLemmas
