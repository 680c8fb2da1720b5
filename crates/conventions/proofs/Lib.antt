pub mod Arranging
pub mod Filling
pub mod Listing
pub mod Lookups
pub mod Places
