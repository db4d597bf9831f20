pub mod Faults
pub mod Bytes
pub mod Kinds
pub mod FirstRecord
pub mod Written
pub mod Walk
