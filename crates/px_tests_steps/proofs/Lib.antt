pub mod Bares
