-- Packets of a tile and the orders in which they are sent (ITU-T T.800, A.6.6 and B.12).
pub mod Orders
pub mod Packets
pub mod Steps
pub mod Groups
pub mod Tables
pub mod Repeats
pub mod Loops
