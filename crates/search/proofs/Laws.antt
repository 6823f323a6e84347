-- The scans and the visits find what the rules say.
pub mod Scan
pub mod Greatest
pub mod Order
pub mod Pairs
pub mod Visiting
pub mod Bounded
pub mod Farthest
pub mod Entered
pub mod Chosen
pub mod Searched
pub mod Some
pub mod Places
pub mod Pivoted
pub mod Laid
