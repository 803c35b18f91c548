-- The lines of a session, one after the other.
use Rattle.std.proofs.Common.{◌≡◌, ℕ, zero, suc, ◌<◌, ◌≤◌, ◌==◌, Bool, true, false, List, [], ◌∷◌, ◌++◌}
use Rattle.std.proofs.Common.{length, Option, Some, None, refl, sym, ap, subst, ◌∙◌, arith, if◌then◌else◌, IfSome, drop}
use Rattle.std.proofs.Common.{Ok}
use Rattle.std.proofs.lemmas.List.{append_assoc}
use Rattle.std.proofs.KnownBytes.{Appends-nil, Appends-trans}
use Rattle.std.specs.Io.BufRead.{DropsThrough, drop_through, take_through}
use Rattle.std.specs.Io.KnownBytes.{Appends}
use Rattle.of_arguments.specs.declared.status.Status.TheVariants as status
use Rattle.of_compile.specs.Coding.{Coding}
use Rattle.of_devices.specs.Racks.{Meant}
use Rattle.of_machine.specs.States.{MachineState, first_machine}
use Rattle.of_monitor.specs.Sessions.{entry}
use Rattle.of_monitor.specs.Turns.{Attended}
use Rattle.of_state.specs.State.{flat_calls}
use Rattle.of_commands.specs.Consoles.{at_rest, behind_image, console_text, line_in, printed_since, prompt}
use Rattle.of_commands.specs.Consoles.{session_text}
use Rattle.of_commands.specs.GivenUp.{AreEntered, Converses}
use Rattle.of_commands.specs.Listings.{newline_behind}

-- So many lines were entered, and the others are left.
pub record IsAt (limit made : ℕ) (bytes rest : List ℕ) (old new : Option (List ℕ)) (x y : Attended Coding)
    : Type 0 where
  pub done : List ℕ
  pub there : AreEntered limit made bytes x done rest y
  pub gone : Appends old new done
  pub most : ℕ
  pub few : length rest ≤ most
  pub same : session_text limit (length bytes) bytes x ≡ done ++ session_text limit most rest y

-- the same of the bytes that a reader is known to have
abbrev pub IsAtKnown :
    ℕ → ℕ → Option (List ℕ) → Option (List ℕ) → Option (List ℕ) → Option (List ℕ) → Attended Coding
    → Attended Coding → Type 0
IsAtKnown limit made None left old new x y = Unit {0}
IsAtKnown limit made (Some bytes) None old new x y = ⊥
IsAtKnown limit made (Some bytes) (Some rest) old new x y = IsAt limit made bytes rest old new x y

pub begins : (limit : ℕ) (known out : Option (List ℕ)) (x : Attended Coding)
    → IsAtKnown limit 0 known known out out x x
begins limit None out x = tt
begins limit (Some bytes) out x =
    record {
      done = [];
      there = (refl, refl, refl);
      gone = Appends-nil out;
      most = length bytes;
      few = omega arith;
      same = refl;
    }

-- a line that is read is none exactly at the end
pub read_nothing : (rest : List ℕ) → length (take_through 10 rest) ≡ 0 → rest ≡ []
read_nothing [] e = refl
read_nothing (b ∷ rest) e = read_by (b == 10) b rest e
  where
    read_by : (t : Bool) (b : ℕ) (rest : List ℕ)
        → length (if t then b ∷ [] else b ∷ take_through 10 rest) ≡ 0 → b ∷ rest ≡ []
    read_by true b rest e = absurd (omega (arith, e))
    read_by false b rest e = absurd (omega (arith, e))

drop_less_by : (t : Bool) (rest : List ℕ) → length (drop_through 10 rest) ≤ length rest
    → length (if t then rest else drop_through 10 rest) ≤ length rest
drop_less_by true rest h = omega arith
drop_less_by false rest h = h

drop_less : (rest : List ℕ) → length (drop_through 10 rest) ≤ length rest
drop_less [] = omega arith
drop_less (b ∷ rest) =
    let less = drop_less_by (b == 10) rest (drop_less rest) in omega (arith, less)

ends_at : (limit made : ℕ) (bytes rest : List ℕ) (old mid new last : Option (List ℕ)) (x y : Attended Coding)
    → IsAt limit made bytes rest old mid x y → rest ≡ [] → Appends mid new prompt → Appends new last (10 ∷ [])
    → Appends old last (session_text limit (length bytes) bytes x)
ends_at limit made bytes rest old mid new last x y at none shown ended =
    let left : session_text limit at.most rest y ≡ prompt ++ 10 ∷ [] =
    ap (λ r. session_text limit at.most r y) none in
    let whole : at.done ++ (prompt ++ 10 ∷ []) ≡ session_text limit (length bytes) bytes x =
    ap (λ t. at.done ++ t) (sym left) ∙ sym at.same in
    subst (Appends old last) whole
    (Appends-trans old mid last at.done (prompt ++ 10 ∷ []) at.gone
    (Appends-trans mid new last prompt (10 ∷ []) shown ended))

-- at the end of the input
pub ends : (limit made : ℕ) (known left old mid new last : _) (line : List ℕ) (x y : Attended Coding)
    → IsAtKnown limit made known left old mid x y → length line ≡ 0 → IfSome left (λ rest. line ≡ take_through 10 rest)
    → Appends mid new prompt → Appends new last (10 ∷ [])
    → IfSome known (λ bytes. Appends old last (session_text limit (length bytes) bytes x))
ends limit made None left old mid new last line x y at none read shown ended = tt
ends limit made (Some bytes) None old mid new last line x y at none read shown ended = absurd at
ends limit made (Some bytes) (Some rest) old mid new last line x y at none read shown ended =
    ends_at limit made bytes rest old mid new last x y at (read_nothing rest (sym (ap length read) ∙ none)) shown
    ended

-- ---- a line more

goes_at : (limit made : ℕ) (bytes rest : List ℕ) (old mid new last : Option (List ℕ)) (x y : Attended Coding)
    → IsAt limit made bytes rest old mid x y → 0 < length rest → Appends mid new prompt
    → Appends new last (printed_since y.0 (entry flat_calls limit (line_in (take_through 10 rest)) y).0)
    → IsAt limit (suc made) bytes (drop_through 10 rest) old last x
    (entry flat_calls limit (line_in (take_through 10 rest)) y)
goes_at limit made bytes rest old mid new last x y at some shown printed =
    go rest at.most at.few some at.there at.same printed
  where
    go : (rest : List ℕ) (most : ℕ) → length rest ≤ most → 0 < length rest
        → AreEntered limit made bytes x at.done rest y
        → session_text limit (length bytes) bytes x ≡ at.done ++ session_text limit most rest y
        → Appends new last (printed_since y.0 (entry flat_calls limit (line_in (take_through 10 rest)) y).0)
        → IsAt limit (suc made) bytes (drop_through 10 rest) old last x
        (entry flat_calls limit (line_in (take_through 10 rest)) y)
    go [] most few some there same printed = absurd (omega (arith, some))
    go (b ∷ rest) zero few some there same printed = absurd (omega (arith, few))
    go (b ∷ rest) (suc most) few some there same printed =
        let z = entry flat_calls limit (line_in (take_through 10 (b ∷ rest))) y in
        let text = printed_since y.0 z.0 in
        let more = session_text limit most (drop_through 10 (b ∷ rest)) z in
        let less = drop_less_by (b == 10) rest (drop_less rest) in
        let joined : at.done ++ (prompt ++ text ++ more) ≡ (at.done ++ (prompt ++ text)) ++ more =
        ap (λ t. at.done ++ t) (sym (append_assoc prompt text more))
        ∙ sym (append_assoc at.done (prompt ++ text) more) in
        record {
          done = at.done ++ (prompt ++ text);
          there = (at.done, b ∷ rest, y, prompt ++ text, there, (some, refl, refl, refl), refl);
          gone =
              Appends-trans old mid last at.done (prompt ++ text) at.gone
              (Appends-trans mid new last prompt text shown printed);
          most = most;
          few = omega (arith, less, few);
          same = same ∙ joined;
        }

pub some_read : (rest : List ℕ) → 0 < length (take_through 10 rest) → 0 < length rest
some_read [] h = h
some_read (b ∷ rest) h = omega arith

pub goes_on : (limit made more : ℕ) (known left after old mid new last : Option (List ℕ)) (line : List ℕ)
    (x y z : Attended Coding) → more ≡ suc made
    → IsAtKnown limit made known left old mid x y → 0 < length line → IfSome left (λ rest. line ≡ take_through 10 rest)
    → DropsThrough left after 10 → Appends mid new prompt → z ≡ entry flat_calls limit (line_in line) y
    → Appends new last (printed_since y.0 z.0) → IsAtKnown limit more known after old last x z
goes_on limit made more None left after old mid new last line x y z one at some read drops shown entered printed = tt
goes_on limit made more (Some bytes) None after old mid new last line x y z one at some read drops shown entered
    printed =
    absurd at
goes_on limit made more (Some bytes) (Some rest) after old mid new last line x y z one at some read drops shown
    entered printed =
    let here : z ≡ entry flat_calls limit (line_in (take_through 10 rest)) y =
    entered ∙ ap (λ l. entry flat_calls limit (line_in l) y) read in
    let left : 0 < length rest = some_read rest (subst (λ l. 0 < length l) read some) in
    let out = subst (λ w. Appends new last (printed_since y.0 w.0)) here printed in
    subst (λ a. IsAtKnown limit more (Some bytes) a old last x z) (sym drops)
    (subst (λ n. IsAt limit n bytes (drop_through 10 rest) old last x z) (sym one)
    (subst (IsAt limit (suc made) bytes (drop_through 10 rest) old last x) (sym here)
    (goes_at limit made bytes rest old mid new last x y at left shown out)))

-- the line without its end was entered
pub entered_as : (limit : ℕ) (line seen short : List ℕ) (y z : Attended Coding) → seen ≡ line → short ≡ line_in seen
    → z ≡ entry flat_calls limit short y → z ≡ entry flat_calls limit (line_in line) y
entered_as limit line seen short y z s l e =
    e ∙ ap (λ t. entry flat_calls limit t y) (l ∙ ap line_in s)

-- ---- all that a console prints

nothing_printed : (ds : List Meant) → length (at_rest ds).0.eval.board.console.text ≡ 0
nothing_printed ds = refl

pub since_rest : (ds : List Meant) (x y : Attended Coding) → x ≡ at_rest ds
    → (let text = drop 0 y.0.eval.board.console.text in text ++ newline_behind text) ≡ printed_since x.0 y.0
since_rest ds x y fresh =
    let none : length x.0.eval.board.console.text ≡ 0 =
    ap (λ (a : Attended Coding). length a.0.eval.board.console.text) fresh ∙ nothing_printed ds in
    ap (λ n. let text = drop n y.0.eval.board.console.text in text ++ newline_behind text) (sym none)

all_by : (ds : List Meant) (limit : ℕ) (image : Option (List ℕ)) (bytes : List ℕ) (old mid new : Option (List ℕ))
    (x y : Attended Coding) → x ≡ at_rest ds → y ≡ behind_image limit image x
    → Appends old mid (printed_since x.0 y.0) → Appends mid new (session_text limit (length bytes) bytes y)
    → Appends old new (console_text ds limit image bytes)
all_by ds limit image bytes old mid new x y fresh begun first rest =
    let joined : Appends old new (printed_since x.0 y.0 ++ session_text limit (length bytes) bytes y) =
    Appends-trans old mid new (printed_since x.0 y.0) (session_text limit (length bytes) bytes y) first rest in
    let one : printed_since x.0 y.0 ++ session_text limit (length bytes) bytes y
    ≡ (let z = behind_image limit image x in
    printed_since x.0 z.0 ++ session_text limit (length bytes) bytes z) =
    ap (λ (z : Attended Coding). printed_since x.0 z.0 ++ session_text limit (length bytes) bytes z) begun in
    let two : (let z = behind_image limit image x in
    printed_since x.0 z.0 ++ session_text limit (length bytes) bytes z)
    ≡ console_text ds limit image bytes =
    ap (λ (w : Attended Coding). let z = behind_image limit image w in
    printed_since w.0 z.0 ++ session_text limit (length bytes) bytes z) fresh in
    subst (Appends old new) (one ∙ two) joined

pub all_printed : (ds : List Meant) (limit : ℕ) (image : Option (List ℕ)) (known old mid new : Option (List ℕ))
    (x y : Attended Coding) → x ≡ at_rest ds → y ≡ behind_image limit image x
    → Appends old mid (let text = drop 0 y.0.eval.board.console.text in text ++ newline_behind text)
    → IfSome known (λ bytes. Appends mid new (session_text limit (length bytes) bytes y))
    → IfSome known (λ bytes. Converses ds limit image bytes old new (Ok status.Done))
all_printed ds limit image None old mid new x y fresh begun first rest = tt
all_printed ds limit image (Some bytes) old mid new x y fresh begun first rest = (
  refl,
  all_by ds limit image bytes old mid new x y fresh begun
      (subst (Appends old mid) (since_rest ds x y fresh) first) rest,
)

-- a machine as it is made, with its devices
pub as_made : (m : MachineState Coding) (ds : List Meant) → m ≡ first_machine
    → ◌≡◌ {A = Attended Coding} (m, ds) (at_rest ds)
as_made m ds made = ap (λ (n : MachineState Coding). (n, ds)) made
