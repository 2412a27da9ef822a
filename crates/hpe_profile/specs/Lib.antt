pub mod ProfileText
