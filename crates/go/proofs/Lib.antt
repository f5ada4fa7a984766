pub mod GoCases
