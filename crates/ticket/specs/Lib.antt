-- What the contracts of `ticket` cite. A reader believes Tickets: the report of an event, from the table after it; Legible: what it
-- is written from, in range. Telling is how the report of an event is written, and need not be believed.
pub mod Tickets
pub mod Legible
pub mod Telling
