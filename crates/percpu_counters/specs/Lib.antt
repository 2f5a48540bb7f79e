pub mod CounterRule
pub mod Passes
pub mod RowsFromWords
