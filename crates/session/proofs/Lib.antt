pub mod Leading
pub mod Nearing
pub mod Placing
pub mod Refusing
pub mod Soundness
