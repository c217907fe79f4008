pub mod Words
pub mod CheckWords
pub mod Commands
