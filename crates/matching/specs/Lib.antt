-- What the contracts and the theorems of `matching` cite. Matching is the one file that a trader reads; Depth has the levels of a side,
-- InTurn its open orders, best first; OutOfTheWay two books that differ in one's own; Accounts what events say of each order; Runs what
-- is said of runs of steps; Held what a market asks of its book; Quoted what bonds or equities ask of an order; Happens which events can
-- happen to it; Looked how what an order would trade is found by looking; Rehearsed the books of the rehearsed cases.
pub mod Matching
pub mod Depth
pub mod InTurn
pub mod OutOfTheWay
pub mod Accounts
pub mod Runs
pub mod Held
pub mod Quoted
pub mod Happens
pub mod Looked
pub mod Rehearsed
