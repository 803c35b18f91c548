-- Scripts, command by command.
use Rattle.std.proofs.Common.{◌≡◌, inl, inr, ℕ, ◌+◌, List, [], ◌∷◌, ◌++◌, Option, Some, None, Result, Ok, Err}
use Rattle.std.specs.Prelude.{⊤}
use Rattle.std.proofs.Common.{refl, sym, subst, append_assoc, append-nil, length, map}
use Rattle.of_calls.specs.Scripts.{Break, Clear, Go, In, Out, Over, Scripted}
use Rattle.of_cells.specs.declared.cells.Cell.{Cell}
use Rattle.of_debug.specs.Debugging.{BreakAt, Clear as ClearAt, Command, Debugged}
use Rattle.of_calls.specs.declared.script_fault.ScriptFault.{ScriptFault}
use Rattle.of_calls.specs.declared.script_fault.ScriptFault.TheVariants as fault
use Rattle.of_debug.specs.declared.fault.DebugFault.{DebugFault}
use Rattle.of_debug.specs.declared.fault.DebugFault.TheVariants as refused
use Rattle.of_script.specs.Scripts.{Carries, HasMarked, Plays, marked_text, word_of}

no_text : {A : Type 0} {said : List ℕ} {f : ScriptFault} → ◌≡◌ {A = Result (List ℕ) ScriptFault} (Ok said) (Err f) → A
no_text e = absurd cc

-- what marks or clears an item prints nothing
none_said : (line : ℕ) (r : Result ⊤ DebugFault) (said : List ℕ)
    → ◌≡◌ {A = Result (List ℕ) ScriptFault} (Ok said) (marked_text line r) → length said ≡ 0
none_said line (Ok x) said e = cc
none_said line (Err refused.NoWord) said e = no_text e
none_said line (Err refused.NoItem) said e = no_text e
none_said line (Err refused.TooMany) said e = no_text e
none_said line (Err refused.Idle) said e = cc
none_said line (Err refused.NoMemory) said e = no_text e

marked_refused : {A : Type 0} (line : ℕ) (o : Option Cell) (command : Cell → Command) (old new : Debugged)
    (said : List ℕ) → (length said ≡ 0 → ⊥) → HasMarked line o command old new (Ok said) → A
marked_refused line None command old new said some h = no_text h.0
marked_refused line (Some xt) command old new said some h = absurd (some (none_said line h.0 said h.2))

-- a command whose text finds no memory, which is some
pub text_refused : (line : ℕ) (c : Scripted) (old new : Debugged) (said : List ℕ) → (length said ≡ 0 → ⊥)
    → Carries line c old new (Ok said) → Carries line c old new (Err fault.NoMemory)
text_refused line In old new said some h = (h.0, h.1, inr refl)
text_refused line Over old new said some h = (h.0, h.1, inr refl)
text_refused line Out old new said some h = (h.0, h.1, inr refl)
text_refused line (Go n) old new said some h = (h.0, h.1, inr refl)
text_refused line (Break word item) old new said some h =
    marked_refused line (word_of word old.feed.machine) (λ xt. BreakAt xt item) old new said some h
text_refused line (Clear word item) old new said some h =
    marked_refused line (word_of word old.feed.machine) (λ xt. ClearAt xt item) old new said some h

-- what the commands that are left lead to is what all of them do, behind the text so far
pub record LeadsTo
    (script : List Scripted) (start : Debugged) (line : ℕ) (left : List Scripted) (now : Debugged) (so_far : List ℕ) :
    Type 0 where
  pub on :
      (new : Debugged) (text : List ℕ) (wrong : Option ScriptFault) → Plays line left now new text wrong →
      Plays 1 script start new (so_far ++ text) wrong

pub leads_first : (script : List Scripted) (start : Debugged) → LeadsTo script start 1 script start []
leads_first script start = record { on = λ new text wrong plays. plays }

pub leads_on : (script : List Scripted) (start : Debugged) (line : ℕ) (c : Scripted) (all left : List Scripted)
    (old now : Debugged) (so_far said text : List ℕ) → LeadsTo script start line all old so_far → all ≡ c ∷ left
    → Carries line c old now (Ok said) → text ≡ so_far ++ said → LeadsTo script start (line + 1) left now text
leads_on script start line c all left old now so_far said text leads split carries more =
    subst (LeadsTo script start (line + 1) left now) (sym more) (record {
      on = λ new text wrong plays.
          subst (λ t. Plays 1 script start new t wrong) (sym (append_assoc so_far said text))
          ((subst (λ cs. LeadsTo script start line cs old so_far) split leads).on new (said ++ text) wrong
          (now, inl (said, text, carries, refl, plays)));
    })

pub leads_out : (script : List Scripted) (start : Debugged) (line : ℕ) (c : Scripted) (all left : List Scripted)
    (old now : Debugged) (so_far : List ℕ) (f : ScriptFault) → LeadsTo script start line all old so_far
    → all ≡ c ∷ left → Carries line c old now (Err f) → Plays 1 script start now so_far (Some f)
leads_out script start line c all left old now so_far f leads split carries =
    subst (λ t. Plays 1 script start now t (Some f)) (append-nil so_far)
    ((subst (λ cs. LeadsTo script start line cs old so_far) split leads).on now [] (Some f)
    (now, inr (f, carries, refl, refl, refl)))

pub leads_end : (script : List Scripted) (start : Debugged) (line : ℕ) (all : List Scripted) (now : Debugged)
    (so_far : List ℕ) → LeadsTo script start line all now so_far → all ≡ [] → Plays 1 script start now so_far None
leads_end script start line all now so_far leads none =
    subst (λ t. Plays 1 script start now t None) (append-nil so_far)
    ((subst (λ cs. LeadsTo script start line cs now so_far) none leads).on now [] None (refl, refl, refl))

pub none_of : {A B : Type 0} (f : A → B) (xs : List A) → length xs ≡ 0 → map f xs ≡ []
none_of f [] e = refl
none_of f (x ∷ xs) e = absurd cc

pub ruleset plays = (leads_first, leads_on, leads_out, leads_end, text_refused)
