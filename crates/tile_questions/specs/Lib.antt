pub mod TileQuestionCases
pub mod TileQuestions
