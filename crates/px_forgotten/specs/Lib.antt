pub mod Forgotten
