pub mod Known
pub mod Stream
pub mod Pieces
pub mod Room
pub mod Laws
