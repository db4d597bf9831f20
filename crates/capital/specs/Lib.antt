pub mod Fault
pub mod Laws
pub mod Meanings
pub mod Range
pub mod Scale
