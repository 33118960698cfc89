-- `WholeCodes` has the codes of all places, `FieldsApart` that different places have different fields,
-- `GivingSteps` steps of giving, `Rooms` tables in order, `TableSizes` that those of small grids are small.
pub mod WholeCodes
pub mod FieldsApart
pub mod GivingSteps
pub mod Rooms
pub mod TableSizes
