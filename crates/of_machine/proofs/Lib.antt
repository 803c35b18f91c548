-- FirstLemmas: the device tree at first leaves the image region empty.
-- EventLemmas: the law `calls_agree`.
-- RunLemmas: runs turn by turn, as the code makes them.
-- AgreeLemmas: the law `runs_agree`, and what `run_script` answers.
-- RackLemmas: runs whose questions a rack answers, for `run_rack`.
-- StretchLemmas: the law `stretches_join`.
-- RefusedLemmas: runs for which memory is refused.
-- GoalLemmas: runs to a goal.
-- OwnNumbers: the numbers of own words by their execution tokens, for the view `name`.
pub mod FirstLemmas
pub mod EventLemmas
pub mod RunLemmas
pub mod AgreeLemmas
pub mod RackLemmas
pub mod StretchLemmas
pub mod RefusedLemmas
pub mod OwnNumbers
pub mod GoalLemmas
