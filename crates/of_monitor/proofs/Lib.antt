-- TurnLemmas: turns of a machine with its devices.
mod TurnLemmas
