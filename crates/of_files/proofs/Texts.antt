-- A file of a source that was read.
use Rattle.std.proofs.Common.{◌≡◌, ◌≤◌, ◌⊎◌, ◌∙◌, ℕ, List, length, Option, Some, None, IfSome, Err, IfErr, Result}
use Rattle.std.proofs.Common.{subst, sym, inl, inr}
use Rattle.std.specs.Io.KnownBytes.{Keeps}
use Rattle.of_arguments.specs.declared.status.Status.{Status}
use Rattle.of_files.specs.declared.fault.Fault.{Fault}
use Rattle.of_files.specs.declared.fault.Fault.TheVariants as fault
use Rattle.of_files.specs.declared.source_lists.SourceList.{SourceList}
use Rattle.of_files.specs.Faults.{EndsWith, ended_with, status_of}
use Rattle.of_files.specs.Files.{IsUnread}
use Rattle.of_files.specs.Sources.{FaultsSource, FaultsSourceFile, FaultsWith, Lists, Tokenizes}

-- nothing was printed of a source with a fault
pub source_given_up : (text : List ℕ) (old new : Option (List ℕ)) (f : Fault) → Keeps old new → FaultsSource text f
    → Tokenizes text old new (Err f)
source_given_up text old new f kept fault = (inl kept, inr (inr (inr fault)))

-- a read that fails is a fault of the file
unread_faults : (file : List ℕ) (f : Fault) → IsUnread f ⊎ (f ≡ fault.Endless) ⊎ (f ≡ fault.NoMemory)
    → (f ≡ fault.Endless → 16777216 ≤ length file) → FaultsSourceFile file f
unread_faults file f (inl unread) long = inl unread
unread_faults file f (inr (inl endless)) long = inr (inl (endless, long endless))
unread_faults file f (inr (inr none)) long = inr (inr (inr (inl none)))

-- nothing was printed of a file that can't be read
pub source_unread : (known old new : Option (List ℕ)) (Said : Fault → Type 0) (f : Fault) (s : Status)
    → Keeps old new → s ≡ status_of f → IsUnread f ⊎ (f ≡ fault.Endless) ⊎ (f ≡ fault.NoMemory)
    → (f ≡ fault.Endless → IfSome known (λ bytes. 16777216 ≤ length bytes)) → Said f
    → IfSome known (λ file. EndsWith (Tokenizes file old new) Said s)
source_unread None old new Said f s kept ends why long said = tt
source_unread (Some file) old new Said f s kept ends why long said =
    (Err f, sym ends, (inl kept, unread_faults file f why long), said)

-- what was printed of the text that was read was printed of the file
pub source_ended : (known : Option (List ℕ)) (text read : List ℕ) (old new : Option (List ℕ))
    (Said : Fault → Type 0) (r : Result Status Fault) (s : Status) → read ≡ text → IfSome known (λ bytes. text ≡ bytes)
    → Tokenizes read old new r → ended_with r ≡ s → IfErr r Said
    → IfSome known (λ file. EndsWith (Tokenizes file old new) Said s)
source_ended None text read old new Said r s same all prints ends said = tt
source_ended (Some file) text read old new Said r s same all prints ends said =
    (r, ends, subst (λ t. Tokenizes t old new r) (same ∙ all) prints, said)

-- a file that can't be read has no image
pub image_unread : (known : Option (List ℕ)) (f : Fault) (s : Status) → s ≡ status_of f
    → IsUnread f ⊎ (f ≡ fault.Endless) ⊎ (f ≡ fault.NoMemory)
    → (f ≡ fault.Endless → IfSome known (λ bytes. 16777216 ≤ length bytes))
    → IfSome known (λ bytes. FaultsWith bytes s)
image_unread None f s ends why long = tt
image_unread (Some file) f s ends why long = (f, sym ends, unread_faults file f why long)

-- nor has one whose text has a fault
pub image_refused : (known : Option (List ℕ)) (text read : List ℕ) (f : Fault) (s : Status) → s ≡ status_of f
    → read ≡ text → IfSome known (λ bytes. text ≡ bytes) → FaultsSource read f
    → IfSome known (λ bytes. FaultsWith bytes s)
image_refused None text read f s ends same all why = tt
image_refused (Some file) text read f s ends same all why =
    (f, sym ends, inr (inr (inr (subst (λ t. FaultsSource t f) (same ∙ all) why))))

-- ---- what is listed of a source

-- nothing was printed of a source with a fault
pub lists_given_up : (l : SourceList) (text : List ℕ) (old new : Option (List ℕ)) (f : Fault)
    → Keeps old new → FaultsSource text f → Lists l text old new (Err f)
lists_given_up l text old new f kept fault = (inl kept, inr (inr (inr fault)))

-- nor of a file that can't be read
pub lists_unread : (l : SourceList) (known old new : Option (List ℕ)) (Said : Fault → Type 0) (f : Fault) (s : Status)
    → Keeps old new → s ≡ status_of f → IsUnread f ⊎ (f ≡ fault.Endless) ⊎ (f ≡ fault.NoMemory)
    → (f ≡ fault.Endless → IfSome known (λ bytes. 16777216 ≤ length bytes)) → Said f
    → IfSome known (λ file. EndsWith (Lists l file old new) Said s)
lists_unread l None old new Said f s kept ends why long said = tt
lists_unread l (Some file) old new Said f s kept ends why long said =
    (Err f, sym ends, (inl kept, unread_faults file f why long), said)

-- what was printed of the text that was read was printed of the file
pub lists_ended : (l : SourceList) (known : Option (List ℕ)) (text read : List ℕ) (old new : Option (List ℕ))
    (Said : Fault → Type 0) (r : Result Status Fault) (s : Status) → read ≡ text → IfSome known (λ bytes. text ≡ bytes)
    → Lists l read old new r → ended_with r ≡ s → IfErr r Said
    → IfSome known (λ file. EndsWith (Lists l file old new) Said s)
lists_ended l None text read old new Said r s same all prints ends said = tt
lists_ended l (Some file) text read old new Said r s same all prints ends said =
    (r, ends, subst (λ t. Lists l t old new r) (same ∙ all) prints, said)
