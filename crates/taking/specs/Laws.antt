-- Laws of what lines and pieces do.
pub mod Pieces
pub mod Unique
pub mod Exists
pub mod Steps
pub mod Bytes
pub mod Reads
