-- Registers: what acts make of the two stacks and of where control goes.
-- Executed: words that are run at once.
-- AtOnce: the same, by groups.
-- Rests: behind which words nothing is due where nothing was.
-- TakenAtOnce: tokens that are done at once.
-- Branch: branches that are.
-- Settled: the end of a step behind which nothing is due.
-- StillRunning: what throws leaves what runs running.
-- Runs: runs, step by step.
-- Asked: with an answer at hand nothing asks.
-- CodeKept: acts that leave the code as it was.
-- GoalLemmas: runs to a goal.
-- UnmarkedLemmas: cells at which no marked item begins.
pub mod Registers
pub mod Executed
pub mod AtOnce
pub mod Rests
pub mod TakenAtOnce
pub mod Branch
pub mod Settled
pub mod StillRunning
pub mod Runs
pub mod Asked
pub mod CodeKept
pub mod GoalLemmas
pub mod UnmarkedLemmas
pub mod Standing
