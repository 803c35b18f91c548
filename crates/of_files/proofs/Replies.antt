-- A file of answers, of devices, of console lines or of commands that was read.
use Rattle.std.proofs.Common.{◌≡◌, ◌⊎◌, ◌∙◌, ℕ, List, Option, Some, None, IfSome, Ok, Err, inl, inr, refl, sym, ap}
use Rattle.of_asking.specs.declared.query.Answer.{Answer}
use Rattle.of_calls.specs.Answers.{parsed_answers}
use Rattle.of_calls.specs.declared.fault.TextFault.{TextFault}
use Rattle.of_calls.specs.declared.fault.TextFault.TheVariants as word
use Rattle.of_calls.specs.Boards.{parsed_board}
use Rattle.of_devices.specs.declared.part.Part.{Part}
use Rattle.of_calls.specs.ConsoleLines.{parsed_lines}
use Rattle.of_calls.specs.Calls.{parsed}
use Rattle.of_calls.specs.Scripts.{Scripted, parsed_script}
use Rattle.of_client.specs.Services.{Service}
use Rattle.of_files.specs.Handed.{FaultsAnswers, FaultsBoard, FaultsCalls, FaultsLines, FaultsScript}
use Rattle.of_files.specs.Faults.{no_answers, no_board, no_calls, no_lines, no_script}

pub answers_read : (known : Option (List ℕ)) (text read : List ℕ) (answers : List Answer) → read ≡ text
    → IfSome known (λ bytes. text ≡ bytes) → parsed_answers read ≡ Ok answers
    → IfSome known (λ bytes. parsed_answers bytes ≡ Ok answers)
answers_read None text read answers same all said = tt
answers_read (Some bytes) text read answers same all said = ap parsed_answers (sym all ∙ sym same) ∙ said

pub answers_refused : (known : Option (List ℕ)) (text read : List ℕ) (f : TextFault) → read ≡ text
    → IfSome known (λ bytes. text ≡ bytes) → (f ≡ word.NoMemory) ⊎ (parsed_answers read ≡ Err f)
    → IfSome known (λ bytes. FaultsAnswers bytes (no_answers f))
answers_refused None text read f same all why = tt
answers_refused (Some bytes) text read f same all (inl none) = inr (inr (inl (ap no_answers none)))
answers_refused (Some bytes) text read f same all (inr wrong) =
    inr (inr (inr (f, ap parsed_answers (sym all ∙ sym same) ∙ wrong, refl)))

pub board_read : (known : Option (List ℕ)) (text read : List ℕ) (parts : List Part) → read ≡ text
    → IfSome known (λ bytes. text ≡ bytes) → parsed_board read ≡ Ok parts
    → IfSome known (λ bytes. parsed_board bytes ≡ Ok parts)
board_read None text read parts same all said = tt
board_read (Some bytes) text read parts same all said = ap parsed_board (sym all ∙ sym same) ∙ said

pub board_refused : (known : Option (List ℕ)) (text read : List ℕ) (f : TextFault) → read ≡ text
    → IfSome known (λ bytes. text ≡ bytes) → (f ≡ word.NoMemory) ⊎ (parsed_board read ≡ Err f)
    → IfSome known (λ bytes. FaultsBoard bytes (no_board f))
board_refused None text read f same all why = tt
board_refused (Some bytes) text read f same all (inl none) = inr (inr (inl (ap no_board none)))
board_refused (Some bytes) text read f same all (inr wrong) =
    inr (inr (inr (f, ap parsed_board (sym all ∙ sym same) ∙ wrong, refl)))

pub lines_read : (known : Option (List ℕ)) (text read : List ℕ) (lines : List (List ℕ)) → read ≡ text
    → IfSome known (λ bytes. text ≡ bytes) → parsed_lines read ≡ Ok lines
    → IfSome known (λ bytes. parsed_lines bytes ≡ Ok lines)
lines_read None text read lines same all said = tt
lines_read (Some bytes) text read lines same all said = ap parsed_lines (sym all ∙ sym same) ∙ said

pub lines_refused : (known : Option (List ℕ)) (text read : List ℕ) (f : TextFault) → read ≡ text
    → IfSome known (λ bytes. text ≡ bytes) → (f ≡ word.NoMemory) ⊎ (parsed_lines read ≡ Err f)
    → IfSome known (λ bytes. FaultsLines bytes (no_lines f))
lines_refused None text read f same all why = tt
lines_refused (Some bytes) text read f same all (inl none) = inr (inr (inl (ap no_lines none)))
lines_refused (Some bytes) text read f same all (inr wrong) =
    inr (inr (inr (f, ap parsed_lines (sym all ∙ sym same) ∙ wrong, refl)))

pub script_read : (known : Option (List ℕ)) (text read : List ℕ) (commands : List Scripted) → read ≡ text
    → IfSome known (λ bytes. text ≡ bytes) → parsed_script read ≡ Ok commands
    → IfSome known (λ bytes. parsed_script bytes ≡ Ok commands)
script_read None text read commands same all said = tt
script_read (Some bytes) text read commands same all said = ap parsed_script (sym all ∙ sym same) ∙ said

pub script_refused : (known : Option (List ℕ)) (text read : List ℕ) (f : TextFault) → read ≡ text
    → IfSome known (λ bytes. text ≡ bytes) → (f ≡ word.NoMemory) ⊎ (parsed_script read ≡ Err f)
    → IfSome known (λ bytes. FaultsScript bytes (no_script f))
script_refused None text read f same all why = tt
script_refused (Some bytes) text read f same all (inl none) = inr (inr (inl (ap no_script none)))
script_refused (Some bytes) text read f same all (inr wrong) =
    inr (inr (inr (f, ap parsed_script (sym all ∙ sym same) ∙ wrong, refl)))

pub calls_read : (known : Option (List ℕ)) (text read : List ℕ) (services : List Service) → read ≡ text
    → IfSome known (λ bytes. text ≡ bytes) → parsed read ≡ Ok services
    → IfSome known (λ bytes. parsed bytes ≡ Ok services)
calls_read None text read services same all said = tt
calls_read (Some bytes) text read services same all said = ap parsed (sym all ∙ sym same) ∙ said

pub calls_refused : (known : Option (List ℕ)) (text read : List ℕ) (c : TextFault) → read ≡ text
    → IfSome known (λ bytes. text ≡ bytes) → (c ≡ word.NoMemory) ⊎ (parsed read ≡ Err c)
    → IfSome known (λ bytes. FaultsCalls bytes (no_calls c))
calls_refused None text read c same all why = tt
calls_refused (Some bytes) text read c same all (inl none) = inr (inr (inl (ap no_calls none)))
calls_refused (Some bytes) text read c same all (inr wrong) =
    inr (inr (inr (c, ap parsed (sym all ∙ sym same) ∙ wrong, refl)))
