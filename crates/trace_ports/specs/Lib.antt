-- The nets of a netlist's ports, as they are read at the places of the ports' records.
pub mod Ports
