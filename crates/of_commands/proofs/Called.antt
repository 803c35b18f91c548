-- What is printed of a run and of the replies to calls.
use Rattle.std.proofs.Common.{◌≡◌, ◌∙◌, ℕ, List, Option, Some, None, IfSome, IfOk}
use Rattle.std.proofs.Common.{IfErr, Ok, Err, Result, inl, inr, refl, sym, ap}
use Rattle.std.proofs.Common.{true, true≢false, is_some}
use Rattle.std.specs.Io.KnownBytes.{Appends, Keeps}
use Rattle.std.proofs.KnownBytes.{Appends-trans}
use Rattle.of_client.specs.Services.{Service}
use Rattle.of_calls.specs.Calls.{parsed}
use Rattle.of_compile.specs.Coding.{Coding}
use Rattle.of_machine.specs.States.{MachineState}
use Rattle.of_machine.specs.declared.answers.End.{End}
use Rattle.of_arguments.specs.declared.status.Status.{Status}
use Rattle.of_runs.specs.Runs.{console_of}
use Rattle.of_runs.specs.declared.outside.Outside.{Outside}
use Rattle.of_files.specs.declared.fault.Fault.{Fault}
use Rattle.of_files.specs.declared.fault.Fault.TheVariants as fault
use Rattle.of_commands.specs.Clients.{AnswersCalls, AnswersClient, PrintsCalls, client_text, reply_lines, served_all}
use Rattle.of_files.specs.Handed.{FaultsCalls}
use Rattle.of_files.specs.Messages.{AppendsPart, bad_start_of}
use Rattle.of_commands.proofs.Faults.{all_are_part, part_behind}
use Rattle.of_commands.specs.Runs.{Fails, IsCut, RunsFile, end_status}
use Rattle.of_files.specs.Faults.{status_of}

-- ---- the run and its replies

-- there was no whole run
pub called_unrun : (known : Option (List ℕ)) (services : List Service) (o : Outside) (limit : ℕ)
    (old new : Option (List ℕ)) (f : Fault) → IfSome known (λ file. Fails file o limit old new f)
    → IfSome known (λ file. PrintsCalls services file o limit old new (Err f))
called_unrun None services o limit old new f why = tt
called_unrun (Some file) services o limit old new f why = inl why

-- a part of the replies was printed
pub called_part : (known : Option (List ℕ)) (services : List Service) (o : Outside) (limit : ℕ)
    (m : MachineState Coding) (e : End) (old mid new : Option (List ℕ)) (f : Fault)
    → IfSome known (λ file. RunsFile file o limit m e) → Appends old mid (console_of m)
    → AppendsPart mid new (reply_lines (served_all m services).replies) → IsCut f
    → IfSome known (λ file. PrintsCalls services file o limit old new (Err f))
called_part None services o limit m e old mid new f runs printed part why = tt
called_part (Some file) services o limit m e old mid new f runs printed part why =
    inr (
      m,
      (e, runs),
      part_behind old mid new (console_of m) (reply_lines (served_all m services).replies) printed part,
      why,
    )

-- all was printed
pub called_all : (known : Option (List ℕ)) (services : List Service) (o : Outside) (limit : ℕ)
    (m : MachineState Coding) (e : End) (old mid new : Option (List ℕ)) (r : Result Status Fault)
    → IfSome known (λ file. RunsFile file o limit m e) → Appends old mid (console_of m)
    → Appends mid new (reply_lines (served_all m services).replies)
    → IfOk r (λ s. s ≡ end_status e) → IfErr r (λ f. f ≡ fault.NoMemory)
    → IfSome known (λ file. PrintsCalls services file o limit old new r)
called_all None services o limit m e old mid new r runs printed all status why = tt
called_all (Some file) services o limit m e old mid new (Ok s) runs printed all status why =
    let replies = reply_lines (served_all m services).replies in
    (m, (e, runs, sym status), Appends-trans old mid new (console_of m) replies printed all)
called_all (Some file) services o limit m e old mid new (Err f) runs printed all status why =
    let replies = reply_lines (served_all m services).replies in
    inr (
      m,
      (e, runs),
      all_are_part old new (client_text services m)
          (Appends-trans old mid new (console_of m) replies printed all),
      inr why,
    )

-- ---- answers

pub called_done : (known : Option (List ℕ)) (services : List Service) (o : Outside) (limit : ℕ)
    (old new : Option (List ℕ)) (Said : Fault → Type 0) (s : Status)
    → IfSome known (λ file. PrintsCalls services file o limit old new (Ok s))
    → IfSome known (λ file. AnswersCalls services file o limit old new Said s)
called_done None services o limit old new Said s prints = tt
called_done (Some file) services o limit old new Said s prints = (Ok s, refl, prints, tt)

pub called_failed : (known : Option (List ℕ)) (services : List Service) (o : Outside) (limit : ℕ)
    (old new : Option (List ℕ)) (Said : Fault → Type 0) (f : Fault) (s : Status)
    → IfSome known (λ file. PrintsCalls services file o limit old new (Err f)) → s ≡ status_of f → Said f
    → IfSome known (λ file. AnswersCalls services file o limit old new Said s)
called_failed None services o limit old new Said f s prints status said = tt
called_failed (Some file) services o limit old new Said f s prints status said =
    (Err f, sym status, prints, said)

pub text_answered : (text known : Option (List ℕ)) (services : List Service) (o : Outside) (limit : ℕ)
    (old new : Option (List ℕ)) (Said : Fault → Type 0) (s : Status) → IfSome text (λ bytes. parsed bytes ≡ Ok services)
    → IfSome known (λ file. AnswersCalls services file o limit old new Said s)
    → IfSome text (λ bytes. IfSome known (λ file. AnswersClient bytes file o limit old new Said s))
text_answered None known services o limit old new Said s said ends = tt
text_answered (Some bytes) None services o limit old new Said s said ends = tt
text_answered (Some bytes) (Some file) services o limit old new Said s said ends =
    inr (services, said, ends)

pub text_refused : (text known : Option (List ℕ)) (o : Outside) (limit : ℕ) (old new : Option (List ℕ))
    (Said : Fault → Type 0) (f : Fault) (s : Status) → Keeps old new
    → IfSome text (λ bytes. FaultsCalls bytes f) → s ≡ status_of f → Said f
    → IfSome text (λ bytes. IfSome known (λ file. AnswersClient bytes file o limit old new Said s))
text_refused None known o limit old new Said f s kept why status said = tt
text_refused (Some bytes) None o limit old new Said f s kept why status said = tt
text_refused (Some bytes) (Some file) o limit old new Said f s kept why status said =
    inl (f, sym status, kept, why, said)

-- the answers of `client`
pub ruleset answers = (text_answered, text_refused)

-- what is wrong for memory has no start byte to be named
pub none_named : (P : Type 0) (r : Result Status Fault) → IfErr r (λ f. f ≡ fault.NoMemory)
    → IfErr r (λ f. is_some (bad_start_of f) ≡ true → P)
none_named P (Ok s) h = tt
none_named P (Err f) h =
    λ e. absurd (true≢false (sym e ∙ ap (λ (g : Fault). is_some (bad_start_of g)) h))
