-- The law `frames_hold`.
use Rattle.of_eval_laws.specs.Frames.{FramesHold, TargetsCountLast}
use Rattle.of_eval_laws.proofs.FramedReading.{item_reads_on, size_kept, text_reads_on, token_sized}
use Rattle.of_eval_laws.proofs.FramedStack.{executed_leaves}
use Rattle.of_eval_laws.proofs.FramedTurns.{do_has_none, targets_count_last, targets_left, targets_thrown}

pub targets : TargetsCountLast
targets = record {
  turns = targets_count_last;
  left = targets_left;
  thrown = targets_thrown;
  entering = do_has_none;
}

pub frames_hold : (S : Type 0) → FramesHold S
frames_hold S = record {
  words = λ c xt s. executed_leaves c xt s;
  items_read_on = λ c i s. item_reads_on c i s;
  texts_read_on = λ c position s goes_on. text_reads_on c position s goes_on;
  tokens_keep_size = λ c x next size position s e found. token_sized c x next size position s e found;
  size_kept = size_kept;
}
