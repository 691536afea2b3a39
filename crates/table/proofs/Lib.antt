-- The laws of `table`, for the proofs of this crate and of those above it. Nothing here need be believed.
-- Loaded: an order as the loader reads it; Same: what is read depends on the bytes it is read from; Instruments: what a market
-- trades, and its marks; Stores: what stands after a store; Writes: parts of a record make the record; Books: the book of a table;
-- Lookups: searches over the records; Fresh: numbers that no two records share; Facts: the test of a market as facts; Listed: the
-- MPIDs; Frames: all but number, work, best levels and amounts; Applied: stores against events; Texts: texts put; Events: applying
-- an event; Working: the order in work; Bests: the best levels in the heading; Fronts: the best level found by looking; Naming: a
-- record takes another ClOrdID; Entering: a record is written anew; Settings: settings tested and written; Kept: a market stays a
-- market; OrderIds: which records keep theirs; Opens: opening makes one; Notes: turns with quantities; Looks: what an order would
-- trade, found by looking; Faced: the best order to meet, found by turns; Promises: what a market says of its texts and OrderIDs; Keys:
-- searches that halve and searches by keys; Theorems: what people read.
pub mod Loaded
pub mod Same
pub mod Instruments
pub mod Stores
pub mod Writes
pub mod Books
pub mod Lookups
pub mod Fresh
pub mod Facts
pub mod Listed
pub mod Frames
pub mod Applied
pub mod Texts
pub mod Events
pub mod Working
pub mod Bests
pub mod Fronts
pub mod Naming
pub mod Entering
pub mod Settings
pub mod Kept
pub mod OrderIds
pub mod Opens
pub mod Notes
pub mod Looks
pub mod Faced
pub mod Promises
pub mod Keys
pub mod Theorems
