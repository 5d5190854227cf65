pub mod Outgoing
