pub mod Limits
pub mod Lists
pub mod Parts
pub mod Plans
pub mod Tables
pub mod Wants
