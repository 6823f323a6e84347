-- Document 01 as definitions, in the order of its sections; `Laws` holds what is proved of them.
pub mod Words
pub mod Clock
pub mod Day
pub mod Routes
pub mod Eccentricity
pub mod Diameter
pub mod Pivots
pub mod Table
pub mod Lent
pub mod Figures
pub mod Struck
pub mod Faultless
