pub mod EffectRecords
