-- Answers that the definitions rule out, each by computing: Messages, of what a message asks; Minimums, of orders with a minimum in a
-- book; Calls, of the calls on a table; Reports, of what a report says. The tables that they are computed on are those of the crate
-- clauses.
pub mod Messages
pub mod Minimums
pub mod Calls
pub mod Reports
