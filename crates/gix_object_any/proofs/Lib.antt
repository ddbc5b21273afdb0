pub mod OneObject
pub mod ReadBack
pub mod OwnedValues
