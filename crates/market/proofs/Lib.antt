-- The laws of `market`, for the proofs of this crate and of those above it. Nothing here need be believed.
-- LevelLaws: the next level, the k-th, and what stands on it; Rising: rising numbers and one entered among them; Ladders: the levels of
-- a side as such; Tops: the answers of Top, and that on a market they are Depth's; Answers: refusals in their order; Theorems: what people
-- read.
pub mod LevelLaws
pub mod Rising
pub mod Ladders
pub mod Tops
pub mod Answers
pub mod Theorems
