pub mod Fault
pub mod Roll
