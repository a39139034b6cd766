mod LawfulNodes
mod Shapes
mod Contexts
mod NodeLists
mod OneWay
mod Refused
mod FirstEquations
mod ShortFiles
