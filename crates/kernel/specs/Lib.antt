pub mod Kernel
pub mod KernelNeeds
