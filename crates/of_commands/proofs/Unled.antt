-- How the lines of a debugger are given up.
use Rattle.std.proofs.Common.{◌≡◌, ◌≢◌, ℕ, ◌<◌, List, [], ◌∷◌, ◌++◌, length, Option, Some, None, Ok, Err, Result}
use Rattle.std.proofs.Common.{IfSome, refl, sym, ap, subst, ◌∙◌, inl, inr}
use Rattle.std.proofs.KnownBytes.{Appends-trans}
use Rattle.std.specs.Prelude.{codes}
use Rattle.std.specs.Io.BufRead.{take_through}
use Rattle.std.specs.Io.KnownBytes.{Appends, Keeps}
use Rattle.of_arguments.specs.declared.status.Status.{Status}
use Rattle.of_arguments.specs.declared.status.Status.TheVariants as status
use Rattle.of_calls.specs.Scripts.{Scripted, parsed_script}
use Rattle.of_calls.specs.declared.fault.TextFault.{TextFault}
use Rattle.of_debug.specs.Debugging.{Debugged}
use Rattle.of_files.specs.Faults.{IsUnwritten, status_of}
use Rattle.of_files.specs.Messages.{AppendsPart}
use Rattle.of_files.specs.declared.fault.Fault.{Fault}
use Rattle.of_files.specs.declared.fault.Fault.TheVariants as fault
use Rattle.of_runs.specs.Runs.{IsRefusedFor}
use Rattle.of_script.specs.Scripts.{Plays}
use Rattle.of_calls.specs.declared.script_fault.ScriptFault.{ScriptFault}
use Rattle.of_commands.specs.Consoles.{line_in, most_lines, printed_since}
use Rattle.of_commands.specs.GivenUp.{IsUnread}
use Rattle.of_commands.specs.Prompts.{AnswersPrompts, Fails, FailsRead, FollowsAll}
use Rattle.of_commands.specs.Prompts.{FollowsSome, IsUncommanded, IsUnsaid}
use Rattle.of_commands.specs.Prompts.{IsUnshown, Leads, Led, Stops, command_prompt, led_debugger, wrong_text}
use Rattle.of_commands.proofs.Faults.{part_behind}
use Rattle.of_commands.proofs.Parts.{part_before}
use Rattle.of_commands.proofs.Prompted.{IsAtKnown}
use Rattle.of_commands.proofs.Sessions.{read_nothing, some_read}

known_or_not : {A : Type 0} {P : A → Type 0} (o : Option A) → ((a : A) → P a) → IfSome o P
known_or_not None h = tt
known_or_not (Some a) h = h a

kept : (known : Option (List ℕ)) → Keeps known known
kept None = tt
kept (Some bytes) = refl

-- ---- a line

-- no memory was found for what is shown
pub unshown : (out : Option (List ℕ)) → IsUnshown out out fault.NoMemory
unshown out = inl (kept out, refl)

-- or it isn't written
pub unwritten : (old new : Option (List ℕ)) (said : List ℕ) (f : Fault) → AppendsPart old new said → IsUnwritten f
    → IsUnshown old new f
unwritten old new said f part cut = inr (said, part, cut)

-- what commands have printed isn't written
pub unsaid_text : (text said : List ℕ) (wrong : Option ScriptFault) (old new : Option (List ℕ)) (f : Fault)
    → AppendsPart old new text → IsUnwritten f → IsUnsaid (text ++ said) wrong old new f
unsaid_text text said wrong old new f part cut = inl (part_before old new text said part, cut)

-- or why the last can't be carried out
pub unsaid_wrong : (text said : List ℕ) (wrong : Option ScriptFault) (old mid new : Option (List ℕ)) (f : Fault)
    → Appends old mid text → AppendsPart mid new said → IsUnwritten f → IsUnsaid (text ++ said) wrong old new f
unsaid_wrong text said wrong old mid new f first part cut = inl (part_behind old mid new text said first part, cut)

-- behind what the machine printed
pub unsaid_behind : (console said : List ℕ) (wrong : Option ScriptFault) (old mid new : Option (List ℕ)) (f : Fault)
    → Appends old mid console → IsUnsaid said wrong mid new f → IsUnsaid (console ++ said) wrong old new f
unsaid_behind console said wrong old mid new f first (inl h) =
    inl (part_behind old mid new console said first h.0, h.1)
unsaid_behind console said wrong old mid new f first (inr h) =
    inr (h.0, Appends-trans old mid new console said first h.1, h.2)

-- commands were carried out, and what they print isn't written
pub uncarried : (commands : List Scripted) (old new : Debugged) (text : List ℕ) (wrong : Option ScriptFault)
    (before after : Option (List ℕ)) (f : Fault) → Plays 1 commands old new text wrong
    → IsUnsaid (printed_since old.feed.machine new.feed.machine ++ (text ++ wrong_text wrong)) wrong before after f
    → FailsRead (Ok commands) old new before after f
uncarried commands old new text wrong before after f played h =
    (wrong, printed_since old.feed.machine new.feed.machine ++ (text ++ wrong_text wrong), (text, played, refl), h)

-- a line with these commands is given up
pub fails_carried : (line : List ℕ) (commands : List Scripted) (old new : Debugged) (before after : Option (List ℕ))
    (f : Fault) → parsed_script line ≡ Ok commands → FailsRead (Ok commands) old new before after f
    → Fails line old new before after f
fails_carried line commands old new before after f e h =
    inr (subst (λ (r : Result (List Scripted) TextFault). FailsRead r old new before after f) (sym e) h)

-- ---- the next line

-- it isn't shown that it is awaited
pub unprompted : (old new : Option (List ℕ)) (f : Fault) → AppendsPart old new command_prompt → IsUnwritten f
    → IsUncommanded old new f
unprompted old new f part cut = inl (part, cut)

-- or it can't be read
pub unread : (old new : Option (List ℕ)) (f : Fault) → Appends old new command_prompt → IsUnread f
    → IsUncommanded old new f
unread old new f shown cut = inr (shown, cut)

-- behind the lines that were done
stops_at : (made : ℕ) (known left old mid new : Option (List ℕ)) (f : Fault) (x y z : Debugged)
    → IsAtKnown made known left old mid x y → IfSome left (λ rest. Stops made rest y z mid new f)
    → IfSome known (λ bytes. FollowsSome bytes x z old new f)
stops_at made None left old mid new f x y z at stops = tt
stops_at made (Some bytes) None old mid new f x y z at stops = absurd at
stops_at made (Some bytes) (Some rest) old mid new f x y z at stops =
    (made, at.done, rest, y, mid, at.there, at.gone, stops)

-- where the next line isn't awaited
pub unawaited : (made : ℕ) (known left old mid new : Option (List ℕ)) (f : Fault) (x y : Debugged)
    → IsAtKnown made known left old mid x y → IsUncommanded mid new f
    → IfSome known (λ bytes. FollowsSome bytes x y old new f)
unawaited made known left old mid new f x y at h =
    stops_at made known left old mid new f x y y at (known_or_not left (λ rest. inl (refl, h)))

-- where there is none, and the newline isn't written
pub unended : (made : ℕ) (known left old mid new last : Option (List ℕ)) (line : List ℕ) (f : Fault)
    (x y : Debugged) → IsAtKnown made known left old mid x y → length line ≡ 0
    → IfSome left (λ rest. line ≡ take_through 10 rest)
    → Appends mid new command_prompt → AppendsPart new last (10 ∷ []) → IsUnwritten f
    → IfSome known (λ bytes. FollowsSome bytes x y old last f)
unended made known left old mid new last line f x y at none read shown part cut =
    stops_at made known left old mid last f x y y at (by_rest left read)
  where
    by_rest : (left : Option (List ℕ)) → IfSome left (λ rest. line ≡ take_through 10 rest)
        → IfSome left (λ rest. Stops made rest y y mid last f)
    by_rest None read = tt
    by_rest (Some rest) read =
        inr (inr (inl (
          refl,
          read_nothing rest (sym (ap length read) ∙ none),
          part_behind mid new last command_prompt (10 ∷ []) shown part,
          cut,
        )))

-- where it isn't done
pub undone : (made : ℕ) (known left old mid new last : Option (List ℕ)) (line seen short : List ℕ) (f : Fault)
    (x y z : Debugged) → IsAtKnown made known left old mid x y → 0 < length line
    → IfSome left (λ rest. line ≡ take_through 10 rest) → Appends mid new command_prompt → seen ≡ line
    → short ≡ line_in seen → short ≢ codes "quit" → Fails short y z new last f
    → IfSome known (λ bytes. FollowsSome bytes x z old last f)
undone made known left old mid new last line seen short f x y z at some read shown s l other h =
    stops_at made known left old mid last f x y z at (by_rest left read)
  where
    by_rest : (left : Option (List ℕ)) → IfSome left (λ rest. line ≡ take_through 10 rest)
        → IfSome left (λ rest. Stops made rest y z mid last f)
    by_rest None read = tt
    by_rest (Some rest) read =
        let here : short ≡ line_in (take_through 10 rest) = l ∙ ap line_in (s ∙ read) in
        inr (inl (
          some_read rest (subst (λ t. 0 < length t) read some),
          (λ e. other (here ∙ e)),
          new,
          shown,
          subst (λ t. Fails t y z new last f) here h,
        ))

-- where as many were read as ever are
pub endless : (made : ℕ) (known left old mid : Option (List ℕ)) (x y : Debugged) → made ≡ most_lines
    → IsAtKnown made known left old mid x y
    → IfSome known (λ bytes. FollowsSome bytes x y old mid fault.Endless)
endless made known left old mid x y all at =
    stops_at made known left old mid mid fault.Endless x y y at
    (known_or_not left (λ rest. inr (inr (inr (all, refl, kept mid, refl)))))

-- ---- an image

-- all lines were done
pub all_led : (d : Led) (known old new : Option (List ℕ)) (x y : Debugged) → x ≡ led_debugger d
    → IfSome known (λ bytes. FollowsAll bytes x y old new)
    → IfSome known (λ bytes. Leads d bytes old new (Ok status.Done))
all_led d None old new x y fresh h = tt
all_led d (Some bytes) old new x y fresh h =
    (refl, (y, subst (λ (w : Debugged). FollowsAll bytes w y old new) fresh h))

-- or some were
pub some_led : (d : Led) (known old new : Option (List ℕ)) (f : Fault) (x y : Debugged) → x ≡ led_debugger d
    → IfSome known (λ bytes. FollowsSome bytes x y old new f)
    → IfSome known (λ bytes. Leads d bytes old new (Err f))
some_led d None old new f x y fresh h = tt
some_led d (Some bytes) old new f x y fresh h =
    inr (y, subst (λ (w : Debugged). FollowsSome bytes w y old new f) fresh h)

-- or the monitor refuses the image or the console lines
pub unloaded : (d : Led) (known out : Option (List ℕ)) (f : Fault) → IsRefusedFor d.image d.lines f
    → IfSome known (λ bytes. Leads d bytes out out (Err f))
unloaded d known out f h = known_or_not known (λ bytes. inl (kept out, h))

-- ---- how the program ends

pub ended : (d : Led) (known old new : Option (List ℕ)) (s : Status)
    → IfSome known (λ bytes. Leads d bytes old new (Ok s)) → AnswersPrompts d known old new s
ended d known old new s h = (Ok s, refl, h)

pub reported : (d : Led) (known old new : Option (List ℕ)) (f : Fault) (s : Status)
    → IfSome known (λ bytes. Leads d bytes old new (Err f)) → s ≡ status_of f → AnswersPrompts d known old new s
reported d known old new f s h e = (Err f, sym e, h)
