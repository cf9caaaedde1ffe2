pub mod OfExponentials
