pub mod Changing
mod TableLines
mod TableRunLemmas
mod TableReaches
mod TableRests
mod TableStops
pub mod TableLaws
pub mod HeldLemmas
pub mod UnbrokenLemmas
pub mod TakingLemmas
pub mod StopLemmas
pub mod SinkLemmas
pub mod FieldLemmas
pub mod LineLemmas
mod LineTexts
pub mod UnofferedLemmas
pub mod PushLemmas
pub mod TargetLemmas
pub mod LogLemmas
mod PathSizes
pub mod ProgressLemmas
pub mod DraftLemmas
pub mod LineEndLemmas
pub mod CommandLemmas
