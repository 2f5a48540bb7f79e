pub mod Walking
pub mod PassCallers
