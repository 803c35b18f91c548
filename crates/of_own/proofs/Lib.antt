-- Chains: what defers lead to, a link at a time. Holding: the law `slots_hold`.
pub mod Chains
pub mod Holding
