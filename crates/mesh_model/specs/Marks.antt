-- What a node remembers of clients that roam and of what it sent for tables, by the calls that were
-- made of it: the marks of clients, the requests to originators and the advertisements of clients.
-- The main words are `mark_of` in RoamingMarks, `too_soon` in Requests and `too_many` in
-- Advertisements.
pub mod Calls
pub mod RoamingMarks
pub mod Requests
pub mod Advertisements
