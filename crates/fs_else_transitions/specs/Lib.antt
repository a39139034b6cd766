pub mod ElseTransitions
