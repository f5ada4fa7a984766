pub mod StartWords
