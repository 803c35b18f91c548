-- The law `mismatch_is_no_body`.
use Rattle.std.proofs.Common.{◌≡◌, ◌↔◌, ℕ, nat_abs, Bool, true, false, [], ◌∷◌, Option, Some, None, Result, Ok, Err}
use Rattle.std.proofs.Common.{refl, ap, ◌∙◌, arith, if◌then◌else◌}
use Rattle.of_cells.specs.declared.cells.Cell.{Cell}
use Rattle.of_code.specs.declared.item.Item.TheVariants as item
use Rattle.of_stacks.specs.declared.throws.Throw.{Throw}
use Rattle.of_stacks.specs.Throws.{control_mismatch, dictionary_overflow}
use Rattle.of_dict.specs.Words.{xt_of}
use Rattle.of_control.specs.Body.{Body}
use Rattle.of_control.specs.Reading.{body_in}
use Rattle.of_compile.specs.declared.element.PlainItem.{PlainItem}
use Rattle.of_compile.specs.Structured.{Definitions, Told, finished_told, has_room, refused, told}
use Rattle.of_eval.specs.Defining.{definition_ended}
use Rattle.of_eval_laws.specs.Structured.{MismatchIsNoBody, structured_calls}
use Rattle.of_eval_laws.proofs.MethodLemmas.{known_code}

-- the number of what was thrown, without its sign
number_of : Result (Unit {0}) Throw → ℕ
number_of (Ok x) = 0
number_of (Err t) = nat_abs t.0

abbrev finished_with : Cell → Body PlainItem → Definitions → Definitions
finished_with xt b d = record { finished = record { xt = xt; body = b } ∷ d.finished; elements = [] }

abbrev told_if : Bool → Cell → Body PlainItem → Definitions → Told
told_if room xt b d = if room then told (finished_with xt b d) else refused d dictionary_overflow

matched : (room : Bool) (xt : Cell) (b : Body PlainItem) (d : Definitions)
    → (told_if room xt b d).ended ≡ Err control_mismatch → ⊥
unfolding number_of
matched true xt b d e = absurd cc
matched false xt b d e = let other : 8 ≡ 22 = ap number_of e in omega (arith, other)

ended_is : (r : Option (Body PlainItem)) (xt : Cell) (d : Definitions)
    → ((finished_told xt d r).ended ≡ Err control_mismatch) ↔ (r ≡ None)
ended_is None xt d = (λ e. refl, λ e. refl)
ended_is (Some b) xt d = (λ e. absurd (matched (has_room (Some item.Return) d) xt b d e), λ e. absurd cc)

room_is : (room : Bool) (xt : Cell) (b c : Body PlainItem) (d : Definitions) → b ≡ c → room ≡ true
    → ((told_if room xt b d).ended ≡ Ok tt)
    × ((told_if room xt b d).definitions.finished ≡ record { xt = xt; body = c } ∷ d.finished)
room_is true xt b c d e is = (refl, ap (λ x. record { xt = xt; body = x } ∷ d.finished) e)
room_is false xt b c d e is = absurd cc

finished_is : (r : Option (Body PlainItem)) (xt : Cell) (c : Body PlainItem) (d : Definitions) → r ≡ Some c
    → has_room (Some item.Return) d ≡ true
    → ((finished_told xt d r).ended ≡ Ok tt)
    × ((finished_told xt d r).definitions.finished ≡ record { xt = xt; body = c } ∷ d.finished)
finished_is None xt c d e room = absurd cc
finished_is (Some b) xt c d e room =
    let same : b ≡ c = cc in room_is (has_room (Some item.Return) d) xt b c d same room

pub mismatch_is_no_body : MismatchIsNoBody
mismatch_is_no_body = record {
  mismatch = λ n s. ended_is (body_in 32 s.code.elements) (record { 0 = xt_of n }) s.code;
  finished = λ n s b e room.
      let o = definition_ended structured_calls (Some n) s in
      let is = finished_is (body_in 32 s.code.elements) (record { 0 = xt_of n }) b s.code e room in
      (is.0, ap (λ d. d.finished) (known_code o.ended s.flow.home n o.state) ∙ is.1);
}
