-- Laws of the format.
pub mod Deciding
pub mod Digits
pub mod Bytes
pub mod Places
pub mod Texts
pub mod Outcomes
pub mod Unique
pub mod Exists
pub mod Examples
