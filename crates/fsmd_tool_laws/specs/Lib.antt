pub mod Agreement
pub mod OneAnswer
pub mod Settled
pub mod CallOutcomes
pub mod AlikeAnswers
pub mod FirstRefusals
