-- `Reached` has how many pairs a question can reach, `Bounds` how large its tables can become.
pub mod Reached
pub mod Bounds
-- `DrawingFacts` has that the tables are drawn, `StartingFacts` that a walk over them can start and what it
-- finds, `AskingFacts` a question from its access to its tables and its answer.
pub mod DrawingFacts
pub mod StartingFacts
pub mod AskingFacts
-- `Handing` has what is handed on to many questions, `QuestionBodies` the bodies of a sound base, which the
-- tables of a question rest on.
pub mod Handing
pub mod QuestionBodies
-- `Sectioning` has the tables in the sections of the slices that hold them, `TableWalks` walks in words that
-- were just made.
pub mod Sectioning
pub mod TableWalks
