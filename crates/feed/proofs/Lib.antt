-- The laws of `feed`, for the proofs of this crate and of those above it. A reader begins with Theorems: what a copy is to its report, that
-- it is short, and that it is read back. Wrong has copies that are computed.
-- The others are the way there, and nothing in them need be believed.
pub mod Weaving
pub mod Clients
pub mod Shaped
pub mod Filled
pub mod Shown
pub mod Copied
pub mod Theorems
pub mod Answers
pub mod Wrong
