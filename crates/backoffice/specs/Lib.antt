-- What the theorems of `backoffice` speak of. A reader believes Feeds: the copies that come of reports handed to a feed one by one, and
-- what a back office tells from them.
pub mod Feeds
