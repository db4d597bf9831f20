pub mod Checks
pub mod One
pub mod Surplus
