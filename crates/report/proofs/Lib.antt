pub mod Solutions
pub mod Filed
pub mod Texts
pub mod Printed
pub mod FiledInto
pub mod ByNumbers
