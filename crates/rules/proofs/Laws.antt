-- Laws of the definitions.
pub mod Single
pub mod Order
pub mod Good
pub mod Joined
pub mod Checks
pub mod Decided
pub mod Routed
pub mod Skipped
pub mod Written
pub mod Rows
pub mod Filled
pub mod Isolated
