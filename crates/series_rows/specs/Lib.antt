pub mod InverseRows
