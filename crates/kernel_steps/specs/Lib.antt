pub mod Kernels
pub mod KernelRuns
pub mod StartLaw
pub mod KernelOfParts
