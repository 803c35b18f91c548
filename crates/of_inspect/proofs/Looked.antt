-- A look at an image that was made.
use Rattle.std.proofs.Common.{◌≡◌, ℕ, List, Option, Some, None, IfSome, Ok, Err, Result, refl, sym, subst, inl, inr}
use Rattle.std.specs.Io.KnownBytes.{Keeps, Appends}
use Rattle.of_arguments.specs.declared.status.Status.{Status}
use Rattle.of_check.specs.Findings.{findings_of}
use Rattle.of_check.specs.Texts.{findings_text}
use Rattle.of_check.specs.declared.finding.Finding.{Finding}
use Rattle.of_files.specs.Faults.{EndsWith, IsUnwritten, status_of}
use Rattle.of_files.specs.Files.{FaultsReading, image_in}
use Rattle.of_files.specs.Messages.{AppendsPart}
use Rattle.of_files.specs.declared.fault.Fault.{Fault}
use Rattle.of_inspect.specs.Looks.{Checks, ChecksImage, look_status}

-- what is wrong was printed
pub looked : (image : List ℕ) (found : List Finding) (text : List ℕ) (old new : Option (List ℕ)) (s : Status)
    → found ≡ findings_of image → s ≡ look_status found → text ≡ findings_text found → Appends old new text
    → ChecksImage image old new (Ok s)
looked image found text old new s is ends same all =
    let printed : Appends old new (findings_text found) = subst (Appends old new) same all in
    (subst (λ fs. s ≡ look_status fs) is ends, subst (λ fs. Appends old new (findings_text fs)) is printed)

-- or a write failed
pub not_looked : (image : List ℕ) (found : List Finding) (text : List ℕ) (f : Fault) (old new : Option (List ℕ))
    → found ≡ findings_of image → text ≡ findings_text found → AppendsPart old new text → IsUnwritten f
    → ChecksImage image old new (Err f)
not_looked image found text f old new is same part unwritten =
    let printed : AppendsPart old new (findings_text found) = subst (AppendsPart old new) same part in
    inr (subst (λ fs. AppendsPart old new (findings_text fs)) is printed, unwritten)

-- the image of a file was looked over
pub file_looked : (known : Option (List ℕ)) (image read : List ℕ) (old new : Option (List ℕ))
    (r : Result Status Fault) → read ≡ image → IfSome known (λ file. image_in file ≡ Ok image)
    → ChecksImage read old new r → IfSome known (λ file. Checks file old new r)
file_looked None image read old new r same has checks = tt
file_looked (Some file) image read old new r same has checks =
    inl (image, has, subst (λ i. ChecksImage i old new r) same checks)

-- or it has none
pub file_unread : (known old new : Option (List ℕ)) (f : Fault) → Keeps old new
    → IfSome known (λ file. FaultsReading file f) → IfSome known (λ file. Checks file old new (Err f))
file_unread None old new f kept why = tt
file_unread (Some file) old new f kept why = inr (f, refl, why, kept)

-- it was done, with this status
pub ended : (known : Option (List ℕ)) (Done : List ℕ → Result Status Fault → Type 0) (Said : Fault → Type 0)
    (s : Status) → IfSome known (λ file. Done file (Ok s)) → IfSome known (λ file. EndsWith (Done file) Said s)
ended (Some file) Done Said s does = (Ok s, refl, does, tt)
ended None Done Said s does = tt

-- or the fault was said
pub not_ended : (known : Option (List ℕ)) (Done : List ℕ → Result Status Fault → Type 0) (Said : Fault → Type 0)
    (f : Fault) (s : Status) → IfSome known (λ file. Done file (Err f)) → s ≡ status_of f → Said f
    → IfSome known (λ file. EndsWith (Done file) Said s)
not_ended (Some file) Done Said f s does ends said = (Err f, sym ends, does, said)
not_ended None Done Said f s does ends said = tt
