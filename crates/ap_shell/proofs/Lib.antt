pub mod Layers
mod MapLemmas
mod Carried
mod ListTurns
mod TextLemmas
mod OctalLemmas
mod DdLemmas
