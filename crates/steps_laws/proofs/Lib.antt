pub mod Balancing
pub mod Determined
pub mod Opened
pub mod Progressing
mod Reasons
mod Refusing
pub mod Sending
pub mod Soundness
pub mod Waiting
pub mod WholeRuns
