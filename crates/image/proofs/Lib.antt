-- The laws of `image`. Nothing here need be believed.
-- Sums: sums over a range of numbers, and a list weighed; Columned: a block weighed in columns; Turns: lists one behind the other;
-- Blocks: one block written, checked and read; Wholes: all blocks; Copies: what is read in a table's place; Answered: what the calls answer, return by return; Images: good
-- blocks and good images; Theorems: what holds of images; Wrong: answers that the definitions rule out.
pub mod Sums
pub mod Columned
pub mod Turns
pub mod Blocks
pub mod Wholes
pub mod Copies
pub mod Answered
pub mod Images
pub mod Theorems
pub mod Wrong
