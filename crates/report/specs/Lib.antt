pub mod Refusing
pub mod Solving
pub mod Printing
pub mod Answering
pub mod Copying
pub mod Examples
