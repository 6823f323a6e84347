pub mod Entering
pub mod Keeping
pub mod Laws
