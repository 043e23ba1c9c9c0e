mod Earliest
mod Folds
mod Shared
mod Tables
