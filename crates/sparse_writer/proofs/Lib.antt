pub mod SizeSteps
