pub mod Passing
pub mod Linking
pub mod Sweeping
pub mod Filling
pub mod Keeping
pub mod Reaching
pub mod Laws
