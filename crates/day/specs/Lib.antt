pub mod Rows
pub mod Refusals
pub mod Verdicts
pub mod Laws
