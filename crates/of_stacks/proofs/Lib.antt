-- Reversed: the cells in the order of the array and of the stack, for the calls of `DataStack`.
-- Order: the laws `first_fault_counts` and `order_is_written`.
pub mod Order
pub mod Reversed
pub mod ReturnLemmas
pub mod LimitLemmas
