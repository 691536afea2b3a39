-- The laws of `kinds`. Nothing here need be believed.
-- Standings: where the fields of a report stand.
pub mod Standings
