-- What the contracts of `table` cite. A reader believes, in this order: Places (which byte is what), Heading and Orders (reading
-- and writing by name), Best (the best levels), Market (when a table is a market), Facts (what a market promises), Changes (the
-- table after what a call does), Opened (what opening writes). Looks and Faced are for the code that looks over the book, Keys for the
-- searches among the records, and none of them need be believed.
pub mod Places
pub mod Heading
pub mod Orders
pub mod Best
pub mod Market
pub mod Facts
pub mod Changes
pub mod Opened
pub mod Looks
pub mod Faced
pub mod Keys
