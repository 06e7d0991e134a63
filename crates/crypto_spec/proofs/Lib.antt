mod StandardExamples
pub mod HopLayers
