pub mod BodiesAsked
