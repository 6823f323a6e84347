-- What the contracts of `search` cite, and in `Laws` that the search finds what the rules say.
pub mod Farthest
pub mod Bounds
pub mod Targets
pub mod Visits
pub mod Pivots
pub mod Found
