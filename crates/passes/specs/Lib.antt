-- What the contracts of `passes` cite, and in `Laws` that the scans give what the rules say.
pub mod Legs
pub mod Forward
pub mod Links
pub mod Backward
pub mod Reach
pub mod Pivots
pub mod Days
