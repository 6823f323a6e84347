pub mod Sounding
pub mod Saying
pub mod Judging
