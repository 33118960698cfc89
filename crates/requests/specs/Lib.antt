pub mod KeepingKinds
