-- What holds of every history, of bonds as of equities. A reader begins with Theorems; Overnight has the same of a market that is written
-- out and read back, Cases the rehearsed books over any table, Printed those of source document 004, Lived two histories from Open on that
-- are computed, and InTheWay one with own orders in the way. The others are the way there, and nothing in them need be believed. Tells:
-- what a report does to an account; OrderIds: which record has one; Exacts: events of a step; Pairs: Trades by 880; Leads: reports lead
-- from table to table; Playing: events with their reports; Trading: the Trades of a step; Running: the reports of Run; Requested: the book
-- after a request; Asked: the report of an event that a message asks for; Submitting: the report of Submit; Opening: an opened table;
-- Loading: loads as single calls; Histories: calls in turn; Telling: each report tells what it is of; Agreeing: steps against matching;
-- Depths: levels add up; Spending: steps left; Putting: what Submit puts in work; Minimums: what becomes of a minimum; Prices: levels said
-- in prices; Kept: from the first table on; Fills, Filled: the trades that reports tell; Standing: accounts from any market on; Alike: the
-- same order in work on two markets; OwnOrders, Replacing: a new order or a replacement is; Canceling: own orders come out of the way.
pub mod Tells
pub mod OrderIds
pub mod Exacts
pub mod Pairs
pub mod Leads
pub mod Playing
pub mod Trading
pub mod Running
pub mod Requested
pub mod Asked
pub mod Submitting
pub mod Opening
pub mod Loading
pub mod Histories
pub mod Telling
pub mod Agreeing
pub mod Depths
pub mod Spending
pub mod Putting
pub mod Minimums
pub mod Prices
pub mod Kept
pub mod Fills
pub mod Filled
pub mod Standing
pub mod Alike
pub mod OwnOrders
pub mod Replacing
pub mod Canceling
pub mod Theorems
pub mod Overnight
pub mod Cases
pub mod Printed
pub mod Lived
pub mod InTheWay
