pub mod Numbers
pub mod Guarantee
pub mod WholeRuns
pub mod WrongTools
