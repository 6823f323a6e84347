-- Laws of the lines of the output.
pub mod Spelling
pub mod Puts
