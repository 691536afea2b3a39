-- The laws of `fix`, for the proofs of this crate and of those above it. Nothing here need be believed.
-- Spelling: the tag and the field at the front; Walk: field after field; Loops: looking for a tag; Sums: sums in one byte, and the CheckSum;
-- Opening: the clauses, and 8 and 9; Verdict: garbled or not, test by test; Plain: the bytes that a good message has; Values: the
-- values that it has; Bodies: its fields between 56 and 10; Paces: a field with the sum of its bytes, read from bytes that end with SOH; Rows: the walk that fills
-- the row; Lines: the order of the fields by the row.
pub mod Spelling
pub mod Walk
pub mod Loops
pub mod Sums
pub mod Opening
pub mod Verdict
pub mod Plain
pub mod Values
pub mod Bodies
pub mod Paces
pub mod Rows
pub mod Lines
