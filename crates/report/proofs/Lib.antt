-- The laws of `report`, for the proofs of this crate and of those above it. Nothing here need be believed.
-- Bytes: the bytes of rows and reports, and how many; Writing: run after run, and a body closed in place; Words: words of three or four characters; Labels: whether a tag stands at a place; Walks: walks to the next SOH and
-- to a field; Parses: fields read slot by slot; Frames: 8, 9 and 10; Readings: the kind and the whole; Taken: what a shape
-- takes; Only: what is read is written so; Back: what was written is read back; Tables: the seven tables of slots; ReadOnly:
-- only one way of writing is read.
pub mod Bytes
pub mod Writing
pub mod Words
pub mod Labels
pub mod Walks
pub mod Parses
pub mod Frames
pub mod Readings
pub mod Taken
pub mod Only
pub mod Back
pub mod Firsts
pub mod Texts
pub mod Tables
pub mod ReadOnly
