-- What the contracts of `report` cite. A reader believes Fields: the bytes of a field and of a row; Frame: the bytes of a report;
-- Shapes, Parse, Slots and Reports: what is a report, and what it says. Search is for the way only.
pub mod Fields
pub mod Frame
pub mod Shapes
pub mod Parse
pub mod Slots
pub mod Reports
pub mod Search
