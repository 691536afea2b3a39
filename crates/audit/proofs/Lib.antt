-- The laws of `audit`. Nothing here need be believed.
-- Filled: a text with its room by rows of bounds; Checked: texts and heading; Amounts: one order; Marked: marks instead of comparing every two ClOrdIDs and places; Bounds: two
-- levels instead of comparing every buy with every sell; Walked: the passes over the book.
pub mod Filled
pub mod Checked
pub mod Amounts
pub mod Rooms
pub mod Marked
pub mod Ranked
pub mod Bounds
pub mod Walked
