-- Settled: the end of a step, item by item. Reversed: slices whose last item comes first.
pub mod Settled
mod Reversed
