-- The images of a ROM that were printed.
use Rattle.std.proofs.Common.{◌≡◌, ◌≤◌, ◌⊎◌, ◌∙◌, ℕ, List, length, Option, Some, None, IfSome, Ok, Err, Result}
use Rattle.std.proofs.Common.{refl, sym, subst, inl, inr}
use Rattle.std.specs.Io.KnownBytes.{Keeps, Appends}
use Rattle.of_arguments.specs.declared.status.Status.{Status}
use Rattle.of_arguments.specs.declared.status.Status.TheVariants as status
use Rattle.of_files.specs.Faults.{IsUnwritten}
use Rattle.of_files.specs.Files.{IsUnread}
use Rattle.of_files.specs.Messages.{AppendsPart}
use Rattle.of_files.specs.declared.fault.Fault.{Fault}
use Rattle.of_files.specs.declared.fault.Fault.TheVariants as fault
use Rattle.of_rom.specs.Texts.{rom_text}
use Rattle.of_rom.specs.declared.fault.RomFault.{RomFault}
use Rattle.of_inspect.specs.Looks.{ShowsImages, ShowsPart, ShowsRom}

-- all were
pub shown : (rom text written : List ℕ) (old new : Option (List ℕ)) → (text, None) ≡ rom_text rom → written ≡ text
    → Appends old new written → ShowsImages rom old new (Ok status.Done)
shown rom text written old new is same all = (refl, (text, sym is, subst (Appends old new) same all))

-- those before what is wrong
pub shown_before : (rom text written : List ℕ) (wrong : RomFault) (old new : Option (List ℕ))
    → (text, Some wrong) ≡ rom_text rom → written ≡ text → Appends old new written
    → ShowsImages rom old new (Err (fault.NoRom wrong))
shown_before rom text written wrong old new is same all =
    inr (subst (λ p. ShowsPart p old new (fault.NoRom wrong)) is (inl (subst (Appends old new) same all, refl)))

-- or a write failed
pub not_shown : (rom text written : List ℕ) (wrong : Option RomFault) (f : Fault) (old new : Option (List ℕ))
    → (text, wrong) ≡ rom_text rom → written ≡ text → AppendsPart old new written → IsUnwritten f
    → ShowsImages rom old new (Err f)
not_shown rom text written wrong f old new is same part unwritten =
    inr (subst (λ p. ShowsPart p old new f) is (inr (subst (AppendsPart old new) same part, unwritten)))

-- those of a file were
pub file_shown : (known : Option (List ℕ)) (text read : List ℕ) (old new : Option (List ℕ)) (r : Result Status Fault)
    → read ≡ text → IfSome known (λ bytes. text ≡ bytes) → ShowsImages read old new r
    → IfSome known (λ rom. ShowsRom rom old new r)
file_shown None text read old new r same all shows = tt
file_shown (Some rom) text read old new r same all shows =
    inl (subst (λ t. ShowsImages t old new r) (same ∙ all) shows)

-- or it can't be read
pub file_unread : (known old new : Option (List ℕ)) (f : Fault) → Keeps old new
    → IsUnread f ⊎ (f ≡ fault.Endless) ⊎ (f ≡ fault.NoMemory)
    → (f ≡ fault.Endless → IfSome known (λ bytes. 16777216 ≤ length bytes))
    → IfSome known (λ rom. ShowsRom rom old new (Err f))
file_unread None old new f kept why long = tt
file_unread (Some rom) old new f kept (inl unread) long = inr (f, refl, inl unread, kept)
file_unread (Some rom) old new f kept (inr (inl endless)) long =
    inr (f, refl, inr (inl (endless, long endless)), kept)
file_unread (Some rom) old new f kept (inr (inr none)) long = inr (f, refl, inr (inr none), kept)
