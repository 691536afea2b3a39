-- What the contracts of `decimal` cite. A reader believes Instruments: what yields and prices are held as; Reading: what a text of
-- digits, a yield, a price and a time say; Writing: how numbers, yields, prices and AvgPx are written; and Canonical: what a text
-- says that must be written so.
pub mod Instruments
pub mod Reading
pub mod Writing
pub mod Canonical
