mod Carrying
pub mod Depths
pub mod Evaluating
pub mod Growing
mod Matching
pub mod Meeting
mod RowKinds
mod Sameness
pub mod TypedArguments
mod TypedPatterns
pub mod TypedRules
pub mod TypedTasks
pub mod TypedValues
pub mod TypedWorths
pub mod Visits
