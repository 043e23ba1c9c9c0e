pub mod ExpressionLaws
mod Matches
pub mod PatternLaws
pub mod Room
pub mod StatementLaws
mod Typings
mod Unbound
mod Verdicts
