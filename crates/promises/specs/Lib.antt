-- What the promises are about. A reader believes History: calls one after the other, the table and the reports after them; Tallies: what a
-- member tells from reports, by OrderID; Whole: what is open, of one OrderID and in all, and what Depth's levels come to; Shown: what Run
-- shows on a table; Prices: prices in tenths; Printed: the worked examples of source document 004; Minimums: what becomes of an order with
-- a minimum; Overnight: histories of markets that are written out and read back; OwnOrders: two markets that differ in one's own orders,
-- and what their reports tell.
pub mod History
pub mod Tallies
pub mod Whole
pub mod Shown
pub mod Prices
pub mod Printed
pub mod Minimums
pub mod Overnight
pub mod OwnOrders
