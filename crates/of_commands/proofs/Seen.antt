-- What is seen of the definitions that an image makes.
use Rattle.std.proofs.Common.{◌≡◌, ◌∙◌, ◌==◌, ℕ, suc, ◌+◌, List, [], ◌∷◌, ◌++◌, length}
use Rattle.std.proofs.Common.{false, true≢false, arith, ap}
use Rattle.std.proofs.Common.{subst, sym}
use Rattle.of_cells.specs.declared.cells.Cell.{Cell}
use Rattle.of_compile.specs.Coding.{Coding}
use Rattle.of_dict.specs.Words.{xt_of}
use Rattle.of_machine.specs.declared.answers.End.{End}
use Rattle.of_machine.specs.Runs.{RunsTo}
use Rattle.of_machine.specs.States.{MachineState}
use Rattle.of_commands.specs.Definitions.{Sees, all_definitions, definition_lines, definition_text, dev_slot}

-- the lines of one more word
pub more_lines : (m : MachineState Coding) (n : ℕ) (xt : Cell) (old new line : List ℕ) → xt.0 ≡ xt_of n
    → old ≡ definition_lines m n → line ≡ definition_text m xt → new ≡ old ++ line
    → new ≡ definition_lines m (n + 1)
more_lines m n xt old new line is before this all =
    let next : n + 1 ≡ suc n = omega arith in
    let shown : line ≡ definition_text m (record { 0 = xt_of n }) =
    this ∙ ap (λ (k : ℕ). definition_text m (record { 0 = k })) is in
    let whole : new ≡ definition_lines m (suc n) =
    all ∙ ap (λ (l : List ℕ). l ++ line) before ∙ ap (λ (l : List ℕ). definition_lines m n ++ l) shown in
    whole ∙ ap (definition_lines m) (sym next)

-- the definitions of a run of some bytes, with this line behind them
pub seen_run : (image line text : List ℕ) (m : MachineState Coding) (e : End) → (length image == 0) ≡ false
    → line ≡ dev_slot → RunsTo image (line ∷ []) [] [] 1000000 m e → text ≡ all_definitions m → Sees image text
seen_run [] line text m e some is runs same = absurd (true≢false some)
seen_run (b ∷ image) line text m e some is runs same =
    (m, (e, subst (λ (l : List ℕ). RunsTo (b ∷ image) (l ∷ []) [] [] 1000000 m e) is runs), same)
