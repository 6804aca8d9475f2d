pub mod Cases
pub mod Worked
pub mod Outside
pub mod OneCell
