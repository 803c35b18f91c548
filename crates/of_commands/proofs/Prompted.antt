-- The lines of a debugger, one after the other.
use Rattle.std.proofs.Common.{◌≡◌, ◌≢◌, ℕ, zero, suc, ◌<◌, List, [], ◌∷◌, ◌++◌, length, Option, Some, None, IfSome}
use Rattle.std.proofs.Common.{refl, sym, ap, subst, ◌∙◌, inl, inr, drop, Ok, ◌==◌, not, true, true≢false, arith}
use Rattle.std.proofs.KnownBytes.{Appends-nil, Appends-trans}
use Rattle.std.specs.Prelude.{codes, ⊤}
use Rattle.std.specs.Io.BufRead.{DropsThrough, drop_through, take_through}
use Rattle.std.specs.Io.KnownBytes.{Appends}
use Rattle.of_calls.specs.Scripts.{Scripted}
use Rattle.of_compile.specs.Coding.{Coding}
use Rattle.of_debug.specs.Debugging.{Debugged}
use Rattle.of_machine.specs.States.{MachineState}
use Rattle.of_script.specs.Scripts.{Plays}
use Rattle.of_calls.specs.declared.script_fault.ScriptFault.{ScriptFault}
use Rattle.of_calls.specs.declared.script_fault.ScriptFault.TheVariants as script
use Rattle.of_commands.specs.Consoles.{line_in, printed_since}
use Rattle.of_commands.specs.Listings.{newline_behind}
use Rattle.of_commands.specs.Prompts.{AreDone, FollowsAll, Obeys, ObeysRead, Prints, command_prompt, wrong_text}
use Rattle.of_commands.proofs.Sessions.{read_nothing, some_read}

-- ---- a line

-- what is shown was printed
pub printed : (old new : Option (List ℕ)) (text : List ℕ) → Appends old new text → Prints old new (λ said. ⊤)
printed old new text out = (text, out, tt)

-- what the machine has printed since, as the two states say it
pub printed_between : (P : List ℕ → Type 0) (old new x y : MachineState Coding) (seen : List ℕ) → x ≡ old
    → seen ≡ x.eval.board.console.text → y ≡ new
    → P (let t = drop (length seen) y.eval.board.console.text in t ++ newline_behind t) → P (printed_since old new)
printed_between P old new x y seen is_old is_seen is_new h =
    let count : length seen ≡ length old.eval.board.console.text =
    ap length (is_seen ∙ ap (λ (m : MachineState Coding). m.eval.board.console.text) is_old) in
    subst
    (λ (m : MachineState Coding).
    P (let t = drop (length old.eval.board.console.text) m.eval.board.console.text in t ++ newline_behind t))
    is_new
    (subst (λ n. P (let t = drop n y.eval.board.console.text in t ++ newline_behind t)) count h)

-- what the machine printed, and what the commands did and why the last can't be carried out, stand one behind the other
pub carried : (commands : List Scripted) (old new : Debugged) (text : List ℕ) (wrong : Option ScriptFault)
    (a b c : Option (List ℕ)) → Plays 1 commands old new text wrong
    → Appends a b (printed_since old.feed.machine new.feed.machine)
    → (wrong ≢ Some script.NoMemory) × Appends b c (text ++ wrong_text wrong)
    → Prints a c (ObeysRead (Ok commands) old new)
carried commands old new text wrong a b c played first rest =
    let console = printed_since old.feed.machine new.feed.machine in
    let said = text ++ wrong_text wrong in
    (console ++ said, Appends-trans a b c console said first rest.1, (wrong, rest.0, (text, played, refl)))

-- ---- lines

-- So many lines were done, and the others are left.
pub record IsAt (made : ℕ) (bytes rest : List ℕ) (old new : Option (List ℕ)) (x y : Debugged) : Type 0 where
  pub done : List ℕ
  pub there : AreDone made bytes x done rest y
  pub gone : Appends old new done

-- the same of the bytes that a reader is known to have
abbrev pub IsAtKnown :
    ℕ → Option (List ℕ) → Option (List ℕ) → Option (List ℕ) → Option (List ℕ) → Debugged → Debugged → Type 0
IsAtKnown made None left old new x y = Unit {0}
IsAtKnown made (Some bytes) None old new x y = ⊥
IsAtKnown made (Some bytes) (Some rest) old new x y = IsAt made bytes rest old new x y

pub begins : (known out : Option (List ℕ)) (x : Debugged) → IsAtKnown 0 known known out out x x
begins None out x = tt
begins (Some bytes) out x = record { done = []; there = (refl, refl, refl); gone = Appends-nil out }

goes_at : (made : ℕ) (bytes rest said : List ℕ) (old mid new last : Option (List ℕ)) (x y z : Debugged)
    → IsAt made bytes rest old mid x y → 0 < length rest → Appends mid new command_prompt → Appends new last said
    → line_in (take_through 10 rest) ≢ codes "quit" → Obeys (line_in (take_through 10 rest)) y z said
    → IsAt (suc made) bytes (drop_through 10 rest) old last x z
goes_at made bytes rest said old mid new last x y z at some shown out other obeyed = record {
  done = at.done ++ (command_prompt ++ said);
  there = (at.done, rest, y, command_prompt ++ said, at.there, (said, some, refl, other, obeyed, refl), refl);
  gone =
      Appends-trans old mid last at.done (command_prompt ++ said) at.gone
      (Appends-trans mid new last command_prompt said shown out);
}

-- a line that was read
pub some_line : (n : ℕ) → true ≡ not (n == 0) → 0 < n
some_line zero e = absurd (true≢false e)
some_line (suc n) e = omega arith

-- a line more
pub goes_on : (made more : ℕ) (known left after old mid new last : Option (List ℕ)) (line seen short : List ℕ)
    (x y z : Debugged) → more ≡ suc made → IsAtKnown made known left old mid x y → 0 < length line
    → IfSome left (λ rest. line ≡ take_through 10 rest)
    → DropsThrough left after 10 → Appends mid new command_prompt → seen ≡ line → short ≡ line_in seen
    → short ≢ codes "quit" → Prints new last (Obeys short y z) → IsAtKnown more known after old last x z
goes_on made more None left after old mid new last line seen short x y z one at some read drops shown s l other p = tt
goes_on made more (Some bytes) None after old mid new last line seen short x y z one at some read drops shown s l other
    p =
    absurd at
goes_on made more (Some bytes) (Some rest) after old mid new last line seen short x y z one at some read drops shown s l
    other p =
    let here : short ≡ line_in (take_through 10 rest) = l ∙ ap line_in (s ∙ read) in
    let left : 0 < length rest = some_read rest (subst (λ t. 0 < length t) read some) in
    subst (λ a. IsAtKnown more (Some bytes) a old last x z) (sym drops)
    (subst (λ n. IsAt n bytes (drop_through 10 rest) old last x z) (sym one)
    (goes_at made bytes rest p.0 old mid new last x y z at left shown p.1 (λ e. other (here ∙ e))
    (subst (λ t. Obeys t y z p.0) here p.2)))

-- what was printed last
joined : (done end : List ℕ) (old mid new last : Option (List ℕ)) → Appends old mid done
    → Appends mid new command_prompt → Appends new last end → Appends old last (done ++ (command_prompt ++ end))
joined done end old mid new last gone shown ended =
    Appends-trans old mid last done (command_prompt ++ end) gone
    (Appends-trans mid new last command_prompt end shown ended)

-- at the end of the input
pub ends : (made : ℕ) (known left old mid new last : Option (List ℕ)) (line : List ℕ) (x y : Debugged)
    → IsAtKnown made known left old mid x y → length line ≡ 0 → IfSome left (λ rest. line ≡ take_through 10 rest)
    → Appends mid new command_prompt → Appends new last (10 ∷ [])
    → IfSome known (λ bytes. FollowsAll bytes x y old last)
ends made None left old mid new last line x y at none read shown ended = tt
ends made (Some bytes) None old mid new last line x y at none read shown ended = absurd at
ends made (Some bytes) (Some rest) old mid new last line x y at none read shown ended = (
  made,
  at.done,
  rest,
  10 ∷ [],
  at.there,
  inl (read_nothing rest (sym (ap length read) ∙ none), refl),
  joined at.done (10 ∷ []) old mid new last at.gone shown ended,
)

-- behind `quit`
pub quits : (made : ℕ) (known left old mid new : Option (List ℕ)) (line seen short : List ℕ) (x y : Debugged)
    → IsAtKnown made known left old mid x y → IfSome left (λ rest. line ≡ take_through 10 rest)
    → Appends mid new command_prompt → seen ≡ line → short ≡ line_in seen → short ≡ codes "quit"
    → IfSome known (λ bytes. FollowsAll bytes x y old new)
quits made None left old mid new line seen short x y at read shown s l q = tt
quits made (Some bytes) None old mid new line seen short x y at read shown s l q = absurd at
quits made (Some bytes) (Some rest) old mid new line seen short x y at read shown s l q = (
  made,
  at.done,
  rest,
  [],
  at.there,
  inr (ap line_in (sym (s ∙ read)) ∙ sym l ∙ q, refl),
  joined at.done [] old mid new new at.gone shown (Appends-nil new),
)
