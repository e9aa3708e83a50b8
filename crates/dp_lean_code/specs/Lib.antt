pub mod LeanHeld
pub mod LeanMade
pub mod LeanFlat
pub mod LeanCode
pub mod Known
pub mod Laws
pub mod steps
