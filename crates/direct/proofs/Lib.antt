-- `FoundLoop` has the turns of the loop over the authorizations; `Choosing` what those for the access say;
-- `DirectFacts` that they alone decide where no rule stands for the access.
pub mod FoundLoop
pub mod Choosing
pub mod DirectFacts
