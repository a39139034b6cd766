pub mod SearchOutcomes
