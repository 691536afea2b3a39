-- The laws of `turns`, for the proofs of this crate and of those above it. Nothing here need be believed; Theorems says what
-- holds of Run.
-- Joins: reports behind each other; Happening: events applied and reported; Stepping: one step; Taking: steps within a budget
-- and room; Running: Run as a call; Agreeing: steps on the table are steps on the book; Going: the loop, and the answers of
-- Run.
pub mod Joins
pub mod Happening
pub mod Stepping
pub mod Taking
pub mod Running
pub mod Agreeing
pub mod Going
pub mod Theorems
