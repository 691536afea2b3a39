-- The laws of `ticket`, for the proofs of this crate and of those above it. Nothing here need be believed. Events: the report of
-- each event; Short: no report is too long; Told: a row is written as it is; Formed: what a table's heading and records give a
-- report; Running: all reports of a step are legible; Taking: so are those that Submit writes; Stamps: their time is the message's.
pub mod Events
pub mod Short
pub mod Told
pub mod Formed
pub mod Running
pub mod Taking
pub mod Stamps
