-- What is proved of the format.
pub mod Laws
