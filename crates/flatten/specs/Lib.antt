pub mod Answering
pub mod Options
