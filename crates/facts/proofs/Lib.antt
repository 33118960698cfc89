-- `LineGiving`: the instants of an authorization as a word that fits a field, and who takes it.
-- `TableSharing`: rules that share a table.
pub mod LineGiving
pub mod TableSharing
