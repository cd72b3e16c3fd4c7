pub mod Errors
pub mod Extended
pub mod ExampleLemmas
pub mod Example
