pub mod Chart
pub mod Lines
