pub mod Greatest
