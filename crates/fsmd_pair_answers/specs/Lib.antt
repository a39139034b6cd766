pub mod PairAnswers
pub mod PairAnswerLaws
pub mod Verdicts
pub use Rattle.search_laws.specs.Certificates
pub use Rattle.search_laws.specs.SearchOutcomes
