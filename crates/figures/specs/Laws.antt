-- Laws of the promises.
pub mod Named
pub mod Unique
pub mod Inner
pub mod Exists
pub mod Isolated
pub mod Outcome
pub mod Numbers
pub mod None
pub mod Skipped
pub mod Starred
