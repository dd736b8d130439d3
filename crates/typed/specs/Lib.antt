-- Laws of typed terms. When a text is refused, and how.
pub mod Refusals
-- The cells that are read are a whole term.
pub mod Shaped
pub mod Whole
-- A text that is read twice, the table after it, and texts that give the same cells.
pub mod Twice
pub mod Staying
pub mod Alike
