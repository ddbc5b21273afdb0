pub mod AskingLemmas
pub mod SignerLemmas
pub mod StampLemmas
pub mod TryLemmas
