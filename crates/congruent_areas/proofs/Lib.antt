mod TopBlocks
mod Lowering
mod Bases
pub mod LaidOut
mod Carving
