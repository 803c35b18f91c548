-- RackLemmas: the first device of a rack that takes a question, for `ask`.
pub mod RackLemmas
-- BytesLemmas: numbers put into bytes and read back.
pub mod BytesLemmas
-- HoldsLemmas: the law `memory_holds`.
pub mod HoldsLemmas
-- BrokenLemmas: the law `broken_addresses_fault`.
pub mod BrokenLemmas
-- CountsLemmas: the laws `keys_come_in_order` and `clock_counts`.
pub mod CountsLemmas
