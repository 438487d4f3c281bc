pub mod Digits
pub mod Greatest
pub mod Left
pub mod Ranges
pub mod Results
pub mod Rising
