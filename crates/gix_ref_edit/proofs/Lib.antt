pub mod SplitLemmas
pub mod NameLemmas
