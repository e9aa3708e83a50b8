pub mod Build
pub mod SymbolTables
pub mod Depths
pub mod Trees
pub mod Loops
pub mod Places
pub mod Laws
