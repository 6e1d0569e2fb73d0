pub mod Common
pub mod HeaderLemmas
pub mod WholeParts
pub mod WholeTrips
pub mod WriteHeaderLemmas
