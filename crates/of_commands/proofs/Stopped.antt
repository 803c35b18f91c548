-- How a console is given up.
use Rattle.std.proofs.Common.{◌≡◌, ℕ, ◌<◌, List, [], ◌∷◌, ◌++◌, length, Option, Some, None, Ok, Err, IfSome}
use Rattle.std.proofs.Common.{drop, refl, sym, ap, subst, ◌∙◌, inl, inr}
use Rattle.std.specs.Prelude.{codes}
use Rattle.std.specs.Io.BufRead.{take_through}
use Rattle.std.specs.Io.KnownBytes.{Appends, Keeps}
use Rattle.of_arguments.specs.declared.status.Status.{Status}
use Rattle.of_compile.specs.Coding.{Coding}
use Rattle.of_devices.specs.Racks.{Meant}
use Rattle.of_files.specs.Faults.{IsUnwritten, refused_as, status_of}
use Rattle.of_files.specs.Messages.{AppendsPart}
use Rattle.of_files.specs.declared.fault.Fault.{Fault}
use Rattle.of_files.specs.declared.fault.Fault.TheVariants as fault
use Rattle.of_refusal.specs.declared.refusal.Refusal.{Refusal}
use Rattle.of_machine.specs.States.{MachineState, RefusesBefore, first_refusal, load_refusal}
use Rattle.of_monitor.specs.Sessions.{IsBroken, entry}
use Rattle.of_monitor.specs.Turns.{Attended}
use Rattle.of_state.specs.State.{flat_calls}
use Rattle.of_commands.specs.Consoles.{at_rest, behind_image, line_in, most_lines, printed_since, prompt}
use Rattle.of_commands.specs.GivenUp.{AnswersConsole, Converses, GivesUp, IsUnanswered, IsUnawaited, IsUnread}
use Rattle.of_commands.specs.GivenUp.{IsUnrun, Stops, StopsBehind}
use Rattle.of_commands.specs.Listings.{newline_behind}
use Rattle.of_commands.proofs.Faults.{part_behind}
use Rattle.of_commands.proofs.Sessions.{IsAtKnown, read_nothing, since_rest, some_read}

known_or_not : {A : Type 0} {P : A → Type 0} (o : Option A) → ((a : A) → P a) → IfSome o P
known_or_not None h = tt
known_or_not (Some a) h = h a

kept : (known : Option (List ℕ)) → Keeps known known
kept None = tt
kept (Some bytes) = refl

-- ---- a line

-- it isn't shown that it is awaited
pub unshown : (old new : Option (List ℕ)) (f : Fault) → AppendsPart old new prompt → IsUnwritten f
    → IsUnawaited old new f
unshown old new f part cut = inl (part, cut)

-- or it can't be read
pub unread : (old new : Option (List ℕ)) (f : Fault) → Appends old new prompt → IsUnread f → IsUnawaited old new f
unread old new f shown cut = inr (shown, cut)

-- no memory was found for its steps
pub unmade : (limit : ℕ) (line : List ℕ) (x y : Attended Coding) (old new : Option (List ℕ))
    → AppendsPart old new (printed_since x.0 y.0) → IsBroken limit line x y
    → IsUnanswered limit line x y old new fault.NoMemory
unmade limit line x y old new part broken = (part, inr (broken, refl))

-- or what it prints isn't written
pub unwritten : (limit : ℕ) (line : List ℕ) (x y : Attended Coding) (old new : Option (List ℕ)) (f : Fault)
    → AppendsPart old new (printed_since x.0 y.0) → y ≡ entry flat_calls limit line x → IsUnwritten f
    → IsUnanswered limit line x y old new f
unwritten limit line x y old new f part entered cut = (part, inl (entered, cut))

-- ---- a session

-- behind the lines that were entered
stops_at : (limit made : ℕ) (known left old mid new : Option (List ℕ)) (f : Fault) (x y : Attended Coding)
    → IsAtKnown limit made known left old mid x y → IfSome left (λ rest. Stops limit made rest y mid new f)
    → IfSome known (λ bytes. StopsBehind limit bytes x old new f)
stops_at limit made None left old mid new f x y at stops = tt
stops_at limit made (Some bytes) None old mid new f x y at stops = absurd at
stops_at limit made (Some bytes) (Some rest) old mid new f x y at stops =
    (made, at.done, rest, y, mid, at.there, at.gone, stops)

-- where the next line isn't awaited
pub unawaited : (limit made : ℕ) (known left old mid new : Option (List ℕ)) (f : Fault) (x y : Attended Coding)
    → IsAtKnown limit made known left old mid x y → IsUnawaited mid new f
    → IfSome known (λ bytes. StopsBehind limit bytes x old new f)
unawaited limit made known left old mid new f x y at h =
    stops_at limit made known left old mid new f x y at (known_or_not left (λ rest. inl h))

-- where there is none, and the newline isn't written
pub unended : (limit made : ℕ) (known left old mid new last : Option (List ℕ)) (line : List ℕ) (f : Fault)
    (x y : Attended Coding) → IsAtKnown limit made known left old mid x y → length line ≡ 0
    → IfSome left (λ rest. line ≡ take_through 10 rest) → Appends mid new prompt → AppendsPart new last (10 ∷ [])
    → IsUnwritten f → IfSome known (λ bytes. StopsBehind limit bytes x old last f)
unended limit made known left old mid new last line f x y at none read shown part cut =
    stops_at limit made known left old mid last f x y at (by_rest left read)
  where
    by_rest : (left : Option (List ℕ)) → IfSome left (λ rest. line ≡ take_through 10 rest)
        → IfSome left (λ rest. Stops limit made rest y mid last f)
    by_rest None read = tt
    by_rest (Some rest) read =
        inr (inr (inl (
          read_nothing rest (sym (ap length read) ∙ none),
          part_behind mid new last prompt (10 ∷ []) shown
              part,
          cut,
        )))

-- where it isn't answered
pub unanswered : (limit made : ℕ) (known left old mid new last : Option (List ℕ)) (line seen short : List ℕ)
    (f : Fault) (x y z : Attended Coding) → IsAtKnown limit made known left old mid x y → 0 < length line
    → IfSome left (λ rest. line ≡ take_through 10 rest) → Appends mid new prompt → seen ≡ line → short ≡ line_in seen
    → IsUnanswered limit short y z new last f → IfSome known (λ bytes. StopsBehind limit bytes x old last f)
unanswered limit made known left old mid new last line seen short f x y z at some read shown s l h =
    stops_at limit made known left old mid last f x y at (by_rest left read)
  where
    entered : IsUnanswered limit (line_in line) y z new last f
    entered = subst (λ t. IsUnanswered limit t y z new last f) (l ∙ ap line_in s) h

    by_rest : (left : Option (List ℕ)) → IfSome left (λ rest. line ≡ take_through 10 rest)
        → IfSome left (λ rest. Stops limit made rest y mid last f)
    by_rest None read = tt
    by_rest (Some rest) read =
        inr (inl (
          some_read rest (subst (λ t. 0 < length t) read some),
          z,
          new,
          shown,
          subst (λ t. IsUnanswered limit (line_in t) y z new last f) read entered,
        ))

-- where as many were read as ever are
pub endless : (limit made : ℕ) (known left old mid : Option (List ℕ)) (x y : Attended Coding) → made ≡ most_lines
    → IsAtKnown limit made known left old mid x y
    → IfSome known (λ bytes. StopsBehind limit bytes x old mid fault.Endless)
endless limit made known left old mid x y all at =
    stops_at limit made known left old mid mid fault.Endless x y at
    (known_or_not left (λ rest. inr (inr (inr (all, kept mid, refl)))))

-- ---- a console

-- the monitor refuses an image
pub refuses : (m : MachineState Coding) (image : Option (List ℕ)) (bytes : List ℕ) (r : Refusal) (f : Fault)
    → image ≡ Some bytes → f ≡ refused_as (length bytes) r
    → RefusesBefore (first_refusal m bytes (codes "/slot")) (load_refusal m bytes (codes "/slot")) r → IsUnrun m image f
refuses m image bytes r f is same why = inr (bytes, r, is, same, why)

-- or no memory is found for its steps
pub lacks_memory : (m : MachineState Coding) (image : Option (List ℕ)) → IsUnrun m image fault.NoMemory
lacks_memory m image = inl refl

-- no memory is found for a machine, or its image isn't run
pub unrun : (ds : List Meant) (limit : ℕ) (image : Option (List ℕ)) (known out : Option (List ℕ)) (f : Fault)
    → IsUnrun (at_rest ds).0 image f → IfSome known (λ bytes. Converses ds limit image bytes out out (Err f))
unfolding GivesUp
unrun ds limit image known out f h = known_or_not known (λ bytes. inl (kept out, h))

pub no_memory : (ds : List Meant) (limit : ℕ) (image : Option (List ℕ)) (known out : Option (List ℕ))
    → IfSome known (λ bytes. Converses ds limit image bytes out out (Err fault.NoMemory))
no_memory ds limit image known out = unrun ds limit image known out fault.NoMemory (inl refl)

-- what an image prints, as the state behind it is said
first_printed : (ds : List Meant) (limit : ℕ) (image : Option (List ℕ)) (x y : Attended Coding) → x ≡ at_rest ds
    → y ≡ behind_image limit image x
    → printed_since x.0 y.0 ≡ printed_since (at_rest ds).0 (behind_image limit image (at_rest ds)).0
first_printed ds limit image x y fresh begun =
    ap (λ (z : Attended Coding). printed_since x.0 z.0) begun
    ∙ ap (λ (w : Attended Coding). printed_since w.0 (behind_image limit image w).0) fresh

-- what the image prints isn't written
pub unprinted : (ds : List Meant) (limit : ℕ) (image : Option (List ℕ)) (known old new : Option (List ℕ)) (f : Fault)
    (x y : Attended Coding) → x ≡ at_rest ds → y ≡ behind_image limit image x
    → AppendsPart old new (let text = drop 0 y.0.eval.board.console.text in text ++ newline_behind text)
    → IsUnwritten f → IfSome known (λ bytes. Converses ds limit image bytes old new (Err f))
unfolding GivesUp
unprinted ds limit image known old new f x y fresh begun part cut =
    let same = since_rest ds x y fresh ∙ first_printed ds limit image x y fresh begun in
    let first = subst (AppendsPart old new) same part in
    known_or_not known (λ bytes. inr (inl (first, cut)))

-- a session is given up behind it
pub unsaid : (ds : List Meant) (limit : ℕ) (image : Option (List ℕ)) (known old mid new : Option (List ℕ)) (f : Fault)
    (x y : Attended Coding) → x ≡ at_rest ds → y ≡ behind_image limit image x
    → Appends old mid (let text = drop 0 y.0.eval.board.console.text in text ++ newline_behind text)
    → IfSome known (λ bytes. StopsBehind limit bytes y mid new f)
    → IfSome known (λ bytes. Converses ds limit image bytes old new (Err f))
unfolding GivesUp
unsaid ds limit image None old mid new f x y fresh begun first stops = tt
unsaid ds limit image (Some bytes) old mid new f x y fresh begun first stops =
    let same = since_rest ds x y fresh ∙ first_printed ds limit image x y fresh begun in
    let printed = subst (Appends old mid) same first in
    let there : y ≡ behind_image limit image (at_rest ds) =
    begun ∙ ap (λ (w : Attended Coding). behind_image limit image w) fresh in
    inr (inr (mid, printed, subst (λ z. StopsBehind limit bytes z mid new f) there stops))

-- ---- how the program ends

pub ended : (ds : List Meant) (limit : ℕ) (image : Option (List ℕ)) (known old new : Option (List ℕ)) (s : Status)
    → IfSome known (λ bytes. Converses ds limit image bytes old new (Ok s))
    → AnswersConsole ds limit image known old new s
ended ds limit image known old new s h = (Ok s, refl, h)

pub reported : (ds : List Meant) (limit : ℕ) (image : Option (List ℕ)) (known old new : Option (List ℕ)) (f : Fault)
    (s : Status) → IfSome known (λ bytes. Converses ds limit image bytes old new (Err f)) → s ≡ status_of f
    → AnswersConsole ds limit image known old new s
reported ds limit image known old new f s h e = (Err f, sym e, h)
