-- What becomes of the name of a defining word of a text.
use Rattle.std.proofs.Common.{◌≡◌, ◌≢◌, ℕ, ◌+◌, ◌<◌, Bool, true, false, nat_eq, nat_le, List, [], ◌∷◌}
use Rattle.std.proofs.Common.{◌++◌, length, Some, None, is_some, refl, ap, ◌∙◌, arith}
use Rattle.std.proofs.lemmas.Bool.{le-leb, le-ltb, lt-leb, lt-ltb, false_from_ne_true, eqb-true}
use Rattle.std.proofs.lemmas.List.{take_at}
use Rattle.of_stacks.specs.Throws.{dictionary_overflow, long_name}
use Rattle.of_stacks.specs.Order.{counting, fault_if, later_rank, rank}
use Rattle.of_memory.specs.Growth.{aligned}
use Rattle.of_memory.specs.Regions.{data_limit}
use Rattle.of_dict.specs.declared.word.Kind.{Kind}
use Rattle.of_dict.specs.Words.{capacity, found, is_hidden_in, is_immediate_in, kind_in, longest_name, lower, name_in}
use Rattle.of_dict.specs.Words.{word_at}
use Rattle.of_dict.specs.Calls.{made}
use Rattle.of_dict.specs.Laws.{ChangesAreFound}
use Rattle.of_compile.specs.declared.defining.DefiningWord.{DefiningWord}
use Rattle.of_compile.specs.declared.defining.DefiningWord.TheVariants as word
use Rattle.of_compile.specs.Words.{IsNameable, WordsState, name_fault}
use Rattle.of_compile.specs.Defining.{has_no_bytes, opened_in, opens, with_named}
use Rattle.of_compile.specs.NamesLaw.{HasNamed, WordsGetTheirNames}
use Rattle.of_compile.proofs.FaultLemmas.{counted_first, naming_lacks, naming_misnamed, naming_open}
use Rattle.of_compile.proofs.WordsLemmas.{at-push, newest_pushed}

-- ---- names

not_empty : (name : List ℕ) → 0 < length name → nat_eq (length name) 0 ≡ false
not_empty name h =
    false_from_ne_true (nat_eq (length name) 0) (λ e. let none = eqb-true (length name) 0 e in omega (arith, h, none))

bears : (name : List ℕ) → IsNameable (Some name) → name_fault (Some name) ≡ None
bears name h =
    rw (not_empty name h.0, le-ltb longest_name (length name) h.1) refl

too_long : (name : List ℕ) → 31 < length name → name_fault (Some name) ≡ Some long_name
too_long name h =
    rw (not_empty name (omega (arith, h)), lt-ltb longest_name (length name) h) refl

-- ---- room

overflow_overflow : nat_le (rank dictionary_overflow.0) (rank dictionary_overflow.0) ≡ true
unfolding rank later_rank
overflow_overflow = refl

-- -8 for want of words, or of bytes
words_full : (b : Bool)
    → counting (fault_if true dictionary_overflow ∷ fault_if b dictionary_overflow ∷ []) ≡ Some dictionary_overflow
words_full true = counted_first dictionary_overflow (Some dictionary_overflow) overflow_overflow
words_full false = refl

bytes_full : (a : Bool)
    → counting (fault_if a dictionary_overflow ∷ fault_if true dictionary_overflow ∷ []) ≡ Some dictionary_overflow
bytes_full true = counted_first dictionary_overflow (Some dictionary_overflow) overflow_overflow
bytes_full false = refl

-- ---- the word

-- `:` alone opens
opens_not : (d : DefiningWord) → d ≢ word.Colon → opens d ≡ false
opens_not word.Colon other = absurd (other refl)
opens_not word.Value other = refl
opens_not word.Constant other = refl
opens_not word.Variable other = refl
opens_not word.Create other = refl
opens_not word.Defer other = refl
opens_not word.Buffer other = refl
opens_not word.Field other = refl

hidden_open : (b : Bool) (n : ℕ) → b ≡ is_some (opened_in b n)
hidden_open true n = refl
hidden_open false n = refl

-- it is found at once unless it is open
found_named : ChangesAreFound → (d : DefiningWord) (name other : List ℕ) (k : Kind) (w : WordsState)
    → d ≢ word.Colon → lower name ≡ lower other
    → found (with_named d k name w).dictionary other ≡ Some (length w.dictionary)
found_named law d name other k w not_colon same =
    ap (λ b. found (w.dictionary ++ Some (record (made (Some name) k) { hidden = b }) ∷ []) other)
    (opens_not d not_colon)
    ∙ law.new_name w.dictionary name other k same

has_named : ChangesAreFound → (d : DefiningWord) (name : List ℕ) (k : Kind) (w : WordsState)
    → HasNamed d name k w (with_named d k name w)
has_named law d name k w =
    let n = length w.dictionary in
    let one = record (made (Some name) k) { hidden = opens d } in
    let there : word_at (w.dictionary ++ Some one ∷ []) n ≡ Some one = at-push w.dictionary (Some one) None in
    record {
      is_newest = newest_pushed w.dictionary one;
      has_name = ap name_in there;
      has_kind = ap kind_in there;
      not_immediate = ap is_immediate_in there;
      is_open = λ e. ap (λ o. opened_in (opens o) n) e;
      is_closed = λ other. ap (λ b. opened_in b n) (opens_not d other);
      is_hidden = ap is_hidden_in there ∙ hidden_open (opens d) n;
      is_found = λ other not_colon same. found_named law d name other k w not_colon same;
      older_stay = take_at w.dictionary (Some one ∷ []) n refl;
      table_stays = refl;
      pending_stays = refl;
      waiting_stays = refl;
    }

pub get_their_names : ChangesAreFound → WordsGetTheirNames
get_their_names law = record {
  in_definition = λ d name start g n e. naming_open d name start g (ap is_some e);
  without_cells = λ d name start g e none. naming_lacks d name start g (ap is_some e) none;
  without_name = λ d start g x ready.
      naming_misnamed d [] start g _ (ap is_some ready.0) (rw ready.1 refl) refl;
  with_long_name = λ d name start g x ready long.
      naming_misnamed d name start g long_name (ap is_some ready.0) (rw ready.1 refl) (too_long name long);
  full = λ d name start g x ready nameable many.
      rw (
        ready.1,
        ap is_some ready.0,
        bears name nameable,
        le-leb capacity (length g.words.dictionary) many,
        words_full (has_no_bytes g.memory (Some x)),
      ) refl;
  without_room = λ d name start g x ready nameable much.
      rw (
        ready.1,
        ap is_some ready.0,
        bears name nameable,
        lt-ltb data_limit (aligned g.memory.here + x.bytes) much,
        bytes_full (nat_le capacity (length g.words.dictionary)),
      ) refl;
  made = λ d name start g x ready nameable few fits. (
    with_named d x.kind name g.words,
    (
      rw (
        ready.1,
        ap is_some ready.0,
        bears name nameable,
        lt-leb capacity (length g.words.dictionary) few,
        le-ltb data_limit (aligned g.memory.here + x.bytes) fits,
      ) refl,
      has_named law d name x.kind g.words,
    ),
  );
}
