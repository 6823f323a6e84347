pub mod Judging
pub mod Preparing
pub mod Laying
pub mod Lasting
pub mod Answering
pub mod Pivoting
pub mod Placing
pub mod Joining
