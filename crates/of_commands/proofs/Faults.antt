-- What a file that has no image, or whose image or source has a fault, is given up with.
use Rattle.std.proofs.Common.{◌≡◌, ℕ, List, Option, Some, None, IfSome, Ok, Err, subst, inl, inr, refl, sym, ◌∙◌}
use Rattle.std.proofs.Common.{Bool, true, false, true≢false, ap, cond, Result, IfOk, IfErr, length}
use Rattle.std.proofs.Common.{◌+◌, ◌++◌, take}
use Rattle.std.specs.Prelude.{is_some}
use Rattle.std.proofs.KnownBytes.{Appends-trans}
use Rattle.std.specs.Io.KnownBytes.{Appends, Keeps}
use Rattle.of_runs.specs.Runs.{GivesUp, console_of}
use Rattle.of_runs.specs.declared.outside.Outside.{Outside}
use Rattle.of_files.specs.declared.fault.Fault.{Fault}
use Rattle.of_files.specs.Files.{image_in, FaultsReading}
use Rattle.of_files.specs.declared.fault.Fault.TheVariants as fault
use Rattle.of_stream.specs.declared.fault.StreamFault.{StreamFault}
use Rattle.of_arguments.specs.Asked.{Appendix}
use Rattle.of_arguments.specs.declared.request.Listing.{Listing}
use Rattle.of_compile.specs.Coding.{Coding}
use Rattle.of_machine.specs.declared.answers.End.{End}
use Rattle.of_machine.specs.States.{MachineState}
use Rattle.std.proofs.Math.Seq.{take-append-add, take-length}
use Rattle.of_arguments.specs.declared.status.Status.{Status}
use Rattle.of_arguments.specs.declared.status.Status.TheVariants as status
use Rattle.of_files.specs.Messages.{AppendsPart, bad_start_of}
use Rattle.of_commands.specs.Runs.{EndsPart, Fails, FaultsImage, FaultsListing, IsCut, Lists, ListsFile, ListsPart}
use Rattle.of_files.specs.Faults.{IsUnwritten}
use Rattle.of_commands.specs.Runs.{Prints, RunsFile, end_status, run_end}
use Rattle.of_commands.specs.Listings.{lacks_word, listed_behind}

-- a file that has no image has no run
pub run_unread : (known : Option (List ℕ)) (o : Outside) (limit : ℕ) (old new : Option (List ℕ)) (f : Fault)
    → Keeps old new → IfSome known (λ file. FaultsReading file f) → IfSome known (λ file. Fails file o limit old new f)
run_unread (Some file) o limit old new f kept fault = inl (kept, fault)
run_unread None o limit old new f kept fault = tt

-- and neither has one of whose image the run is given up
pub run_given_up : (known : Option (List ℕ)) (o : Outside) (limit : ℕ) (image : List ℕ) (old new : Option (List ℕ))
    (f : Fault) → IfSome known (λ file. image_in file ≡ Ok image) → GivesUp image o limit old new f
    → IfSome known (λ file. Fails file o limit old new f)
run_given_up (Some file) o limit image old new f has given_up = inr (image, has, given_up)
run_given_up None o limit image old new f has given_up = tt

-- a file that has no image has a fault of a listing
pub listing_unread : (known : Option (List ℕ)) (l : Listing) (partial : Bool) (f : Fault)
    → IfSome known (λ file. FaultsReading file f) → IfSome known (λ file. FaultsListing l partial file f)
listing_unread (Some file) l partial f fault = inl fault
listing_unread None l partial f fault = fault

-- and so has one of whose image nothing is shown
pub listing_refused : (known : Option (List ℕ)) (l : Listing) (partial : Bool) (image : List ℕ) (f : Fault)
    → IfSome known (λ file. image_in file ≡ Ok image) → FaultsImage l partial image f
    → IfSome known (λ file. FaultsListing l partial file f)
listing_refused (Some file) l partial image f has why = inr (image, has, why)
listing_refused None l partial image f has why = tt

-- what was read of lines that are shown is shown
lines_shown : (l : Listing) (partial : Bool) (file lines text : List ℕ) (wrong : Option StreamFault) → text ≡ lines
    → ListsFile l partial file (lines, wrong) → ListsFile l partial file (text, wrong)
lines_shown l partial file lines text wrong same shown =
    subst (λ (ls : List ℕ). ListsFile l partial file (ls, wrong)) (sym same) shown

-- the lines that are shown were printed, or a part of them
pub listing_printed : (known : Option (List ℕ)) (l : Listing) (partial : Bool) (lines text : List ℕ)
    (wrong : Option StreamFault) (old new : Option (List ℕ)) (r : Result Status Fault) → text ≡ lines
    → IfSome known (λ file. ListsFile l partial file (lines, wrong))
    → IfOk r (λ s. (s ≡ status.Done) × (wrong ≡ None) × Appends old new text)
    → IfErr r (λ f. ListsPart (text, wrong) old new f) → IfSome known (λ file. Lists l partial file old new r)
listing_printed None l partial lines text wrong old new r same shown all part = tt
listing_printed (Some file) l partial lines text wrong old new (Ok s) same shown all part = (
  all.0,
  (
    text,
    subst (λ (w : Option StreamFault). ListsFile l partial file (text, w)) all.1
        (lines_shown l partial file lines text wrong same shown),
    all.2,
  ),
)
listing_printed (Some file) l partial lines text wrong old new (Err f) same shown all part =
    inr ((text, wrong), lines_shown l partial file lines text wrong same shown, part)

-- nothing is shown
pub listing_given_up : (known : Option (List ℕ)) (l : Listing) (partial : Bool) (old new : Option (List ℕ)) (f : Fault)
    → Keeps old new → IfSome known (λ file. FaultsListing l partial file f)
    → IfSome known (λ file. Lists l partial file old new (Err f))
listing_given_up None l partial old new f kept why = tt
listing_given_up (Some file) l partial old new f kept why = inl (kept, why)

-- all bytes are a part of them
pub all_are_part : (old new : Option (List ℕ)) (bs : List ℕ) → Appends old new bs → AppendsPart old new bs
all_are_part old new bs all = (length bs, subst (Appends old new) (sym (take-length bs)) all)

-- ---- two texts, one behind the other

-- all of the first, and the first bytes of the second
pub part_behind : (old mid new : Option (List ℕ)) (a b : List ℕ) → Appends old mid a → AppendsPart mid new b
    → AppendsPart old new (a ++ b)
part_behind old mid new a b all part = (
  length a + part.0,
  subst (Appends old new) (sym (take-append-add a b part.0)) (Appends-trans old mid new a (take part.0 b) all part.1),
)

-- ---- runs

-- what a run prints was printed, and what is listed behind it, or a part of that
pub run_printed : (a : Appendix) (known : Option (List ℕ)) (o : Outside) (limit : ℕ) (m : MachineState Coding)
    (e : End) (old mid new : Option (List ℕ)) (r : Result Status Fault)
    → IfSome known (λ file. RunsFile file o limit m e) → Appends old mid (console_of m)
    → IfOk r (λ s. Appends mid new (listed_behind a m) × (run_end a m (end_status e) ≡ Ok s))
    → IfErr r (λ f. EndsPart a m e mid new f) → IfSome known (λ file. Prints a file o limit old new r)
run_printed a None o limit m e old mid new r runs printed all part = tt
run_printed a (Some file) o limit m e old mid new (Ok s) runs printed all part =
    (m, (e, runs, all.1), Appends-trans old mid new (console_of m) (listed_behind a m) printed all.0)
run_printed a (Some file) o limit m e old mid new (Err f) runs printed all (inl whole) =
    inl (m, (e, runs, whole.1), Appends-trans old mid new (console_of m) (listed_behind a m) printed whole.0)
run_printed a (Some file) o limit m e old mid new (Err f) runs printed all (inr some) =
    inr (inr (m, (e, runs), part_behind old mid new (console_of m) (listed_behind a m) printed some.0, some.1))

-- there was no whole run
pub run_unrun : (a : Appendix) (known : Option (List ℕ)) (o : Outside) (limit : ℕ) (old new : Option (List ℕ))
    (f : Fault) → IfSome known (λ file. Fails file o limit old new f)
    → IfSome known (λ file. Prints a file o limit old new (Err f))
run_unrun a None o limit old new f why = tt
run_unrun a (Some file) o limit old new f why = inr (inl why)

-- all was printed, and this is the end
pub run_ended : (a : Appendix) (m : MachineState Coding) (e : End) (old new : Option (List ℕ)) (s : Status)
    (r : Result Status Fault) → s ≡ end_status e → Appends old new (listed_behind a m) → r ≡ run_end a m s
    → IfOk r (λ t. Appends old new (listed_behind a m) × (run_end a m (end_status e) ≡ Ok t))
    × IfErr r (λ f. EndsPart a m e old new f)
run_ended a m e old new s (Ok t) is all ended = ((all, sym (ended ∙ ap (run_end a m) is)), tt)
run_ended a m e old new s (Err f) is all ended = (tt, inl (all, sym (ended ∙ ap (run_end a m) is)))

-- a write that failed is no bad start byte
unwritten_begins : (f : Fault) → IsUnwritten f → bad_start_of f ≡ None
unwritten_begins fault.ArgumentNotText unwritten = refl
unwritten_begins (fault.Unopened code) unwritten = refl
unwritten_begins (fault.Unread code) unwritten = refl
unwritten_begins fault.Endless unwritten = refl
unwritten_begins (fault.BadDigit place byte) unwritten = refl
unwritten_begins fault.OddDigits unwritten = refl
unwritten_begins (fault.TooLong length) unwritten = refl
unwritten_begins (fault.Refused r) unwritten = absurd unwritten
unwritten_begins (fault.Unlisted g) unwritten = absurd unwritten
unwritten_begins (fault.NoSource place g) unwritten = refl
unwritten_begins (fault.OffsetTooLong place) unwritten = refl
unwritten_begins (fault.NoImage g) unwritten = refl
unwritten_begins (fault.NoCalls g) unwritten = refl
unwritten_begins (fault.NoAnswers g) unwritten = refl
unwritten_begins (fault.NoBoard g) unwritten = refl
unwritten_begins (fault.NoLines g) unwritten = refl
unwritten_begins (fault.NoScript g) unwritten = refl
unwritten_begins (fault.GivenUp g) unwritten = refl
unwritten_begins (fault.NoRom g) unwritten = refl
unwritten_begins fault.NoProgram unwritten = refl
unwritten_begins fault.NoWord unwritten = refl
unwritten_begins fault.OutputIsSource unwritten = refl
unwritten_begins fault.BadLimit unwritten = refl
unwritten_begins fault.Uncaught unwritten = refl
unwritten_begins fault.TwoProducts unwritten = refl
unwritten_begins fault.TwoOutsides unwritten = refl
unwritten_begins fault.TwoListings unwritten = refl
unwritten_begins fault.NoGuide unwritten = refl
unwritten_begins (fault.Unwritten code) unwritten = refl
unwritten_begins (fault.Unkept code) unwritten = refl
unwritten_begins fault.NoMemory unwritten = refl

-- nor is memory
none_begins : (f : Fault) → IsCut f → bad_start_of f ≡ None
none_begins f (inl unwritten) = unwritten_begins f unwritten
none_begins f (inr none) = ap bad_start_of none

-- so behind the start of a run there is none of which it could be said
pub run_begins : (r : Result Status Fault) (Kept : Type 0) → IfErr r IsCut
    → IfErr r (λ f. is_some (bad_start_of f) ≡ true → Kept)
run_begins (Ok s) Kept why = tt
run_begins (Err f) Kept why = λ begun. absurd (true≢false (sym begun ∙ ap is_some (none_begins f why)))

-- the byte of a run's end, if it is a fault of one
abbrev byte_of : Result Status Fault → Option ℕ
byte_of (Ok s) = None
byte_of (Err f) = bad_start_of f

-- there is none, where all was printed
end_begins : (a : Appendix) (m : MachineState Coding) (s : Status) (f : Fault) → run_end a m s ≡ Err f
    → bad_start_of f ≡ None
end_begins a m s f ended = go (lacks_word a.see m) refl
  where
    go : (t : Bool) → lacks_word a.see m ≡ t → bad_start_of f ≡ None
    go true lacks = ap byte_of (sym ended) ∙ ap (λ (t : Bool). byte_of (cond t (Err fault.NoWord) (Ok s))) lacks
    go false has = ap byte_of (sym ended) ∙ ap (λ (t : Bool). byte_of (cond t (Err fault.NoWord) (Ok s))) has

-- nor where a part was
part_begins : (a : Appendix) (m : MachineState Coding) (e : End) (old new : Option (List ℕ)) (f : Fault)
    → EndsPart a m e old new f → bad_start_of f ≡ None
part_begins a m e old new f (inl whole) = end_begins a m (end_status e) f whole.1
part_begins a m e old new f (inr some) = none_begins f some.1

pub ends_begin : (a : Appendix) (m : MachineState Coding) (e : End) (old new : Option (List ℕ))
    (r : Result Status Fault) (Kept : Type 0) → IfErr r (λ f. EndsPart a m e old new f)
    → IfErr r (λ f. is_some (bad_start_of f) ≡ true → Kept)
ends_begin a m e old new (Ok s) Kept why = tt
ends_begin a m e old new (Err f) Kept why =
    λ begun. absurd (true≢false (sym begun ∙ ap is_some (part_begins a m e old new f why)))
