pub mod Atoms
pub mod HeldAtoms
pub mod Nodes
pub mod Equal
pub mod AtomNumbers
pub mod AtomGraphs
