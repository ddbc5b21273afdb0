pub mod FrontLemmas
pub mod CategoryLemmas
pub mod NamespaceLemmas
