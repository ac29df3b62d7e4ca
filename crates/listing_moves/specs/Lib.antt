-- A walk as text.
pub mod WalkText
