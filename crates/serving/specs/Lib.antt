pub mod InputView
pub mod LinesView
pub mod Serving
pub mod Turns
