pub mod Indices
pub mod Wants
pub mod Tables
pub mod Order
pub mod Best
pub mod Worked
