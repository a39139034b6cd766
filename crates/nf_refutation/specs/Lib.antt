pub mod BoundTables
