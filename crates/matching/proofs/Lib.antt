-- The laws of `matching`, for the proofs of this crate and of those above it. Nothing here need be believed.
-- Values: returns of single functions; Books: orders by number, and sums over them; Events: what an event changes; Steps: the ways that a
-- step can go; Conserved: what becomes of each quantity; Fair: bought is sold, and nobody trades with himself; Crossing: the book stays
-- uncrossed; Ends: the work ends; Sounds: orders stay in range; Holding: a step keeps what a market asks; Requests: and so does what
-- Submit does; Quoting: orders keep to the sides and levels of their market; Best: nothing is better than the best; InTurn: the open
-- orders of a side in turn; Levels: the levels of a side; Modes: one mode is asked for; Minimum: what an order would trade, and what a
-- match does to it; Turns, Offers, Looking: that this is found by looking at the book; Deciding: what comes of the decision on a minimum;
-- OutOfTheWay, Withdrawing: own orders cost no fills, and how they come out of the way; Cases: the rehearsed cases; Theorems: what people
-- read.
pub mod Values
pub mod Books
pub mod Events
pub mod Placing
pub mod Steps
pub mod Conserved
pub mod Fair
pub mod Crossing
pub mod Ends
pub mod Sounds
pub mod Holding
pub mod Requests
pub mod Quoting
pub mod Best
pub mod InTurn
pub mod Levels
pub mod Modes
pub mod Minimum
pub mod Turns
pub mod Offers
pub mod Looking
pub mod Deciding
pub mod OutOfTheWay
pub mod Withdrawing
pub mod Cases
pub mod Theorems
