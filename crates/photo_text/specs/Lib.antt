pub mod PhotometryText
