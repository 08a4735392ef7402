pub mod LiteralAnswers
pub mod SmallTexts
