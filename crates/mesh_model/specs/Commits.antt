-- What a node commits of its clients, and what its originator messages tell of its commits. It
-- stands on the rooms Clients and Tables. The main words are `commits`, in History, `announcement`,
-- in Announcements, and `alias_of`, in Aliases.
pub mod Versions
pub mod History
pub mod Announcements
pub mod Aliases
