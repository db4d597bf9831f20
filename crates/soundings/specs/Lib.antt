pub mod Output
pub mod Walked
