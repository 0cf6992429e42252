-- `Texts` has the words of a line, `Lines` the lines, `Listing` the listing of a whole input, `Turns` what the program does at each turn, and
-- `Whole` that the turns print just that listing.
pub mod Texts
pub mod Lines
pub mod Listing
pub mod Turns
pub mod Whole
