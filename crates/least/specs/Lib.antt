pub mod Assignments
pub mod Counts
pub mod Rivals
pub mod Theorems
