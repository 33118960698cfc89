pub mod HopFacts
