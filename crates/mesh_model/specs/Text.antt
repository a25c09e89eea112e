-- What is printed: tables, packets, the lines of `decode` and of events, and the messages of a run
-- that halts. It stands on the rooms Scenario, Packets and Clients. The main words are
-- `table_text`, `orig_table_text` and `link_table_text`, in Tables, `global_table_text`, in
-- GlobalTables, `claim_table_text`, in Claims, `service_table_text`, in Services, `network_text`, in
-- Pictures, `decode_text`, in Decode, `route_text`, in Routes, `event_text`, in Events, and
-- `halt_text`, in Messages.
pub mod PacketLines
pub mod Tables
pub mod GlobalTables
pub mod Claims
pub mod ContainerLines
pub mod Decode
pub mod Routes
pub mod Events
pub mod Pictures
pub mod Services
pub mod Messages
