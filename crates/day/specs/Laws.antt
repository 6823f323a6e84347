-- Laws of rows and verdicts.
pub mod Single
