pub mod FilledOutput
