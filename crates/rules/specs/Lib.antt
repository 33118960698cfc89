pub mod RankTables
pub mod Edges
