pub mod Sifts
pub mod HeapRows
