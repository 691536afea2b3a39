-- The clauses of a market, each shown to matter on a whole table, by computing: Clauses. Books has the tables, on which the crate
-- ruled_out computes too.
pub mod Books
pub mod Clauses
