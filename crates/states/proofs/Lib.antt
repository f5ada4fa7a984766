pub mod Lettering
