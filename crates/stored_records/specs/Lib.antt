-- The tests of the words of ports, register bits and cells, and the least net that a cell's inputs allow as output.
pub mod Above
pub mod Words
