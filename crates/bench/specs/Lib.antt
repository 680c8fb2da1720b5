pub mod Origins
pub mod Cells
pub mod Benches
