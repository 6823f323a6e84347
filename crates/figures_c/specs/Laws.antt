-- Laws of the replies.
pub mod Replied
pub mod Told
pub mod Unique
pub mod Exists
pub mod Isolated
