-- laws of expansion alone
pub mod ExpandLaws
pub mod KeptGlobals
-- frames against the expanded program: the relation, values and stores
pub mod Relation
pub mod SameValues
pub mod Visible
pub mod Written
-- stacks of frames; a step of each kind; whole runs
pub mod Stacks
pub mod Exits
pub mod Effects
pub mod Clears
pub mod Settles
pub mod Acting
pub mod Leaving
pub mod Binding
pub mod Simulation
-- expansion leads to the relation: tables, names, and pieces of text
pub mod Tabled
pub mod Named
pub mod Made
pub mod Passed
pub mod Declared
pub mod Pieces
pub mod PlainLaws
pub mod Bodies
-- checked programs, and the law
pub mod Layouts
pub mod CheckedTexts
pub mod Whole
pub mod SameMeanings
pub mod InOrder
pub mod Within
-- the numbers of an expanded program
pub mod SiteLaws
pub mod RegionTableLaws
pub mod RoleLaws
pub mod InlinedLaws
-- what it stores into
pub mod Everywhere
pub mod Homes
pub mod HomeLaws
-- its numbers
pub mod SmallNumbers
-- how its locals start
pub mod StartLaws
pub mod rows
