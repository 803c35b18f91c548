-- The body of a definition is that of its nest.
use Rattle.std.proofs.Common.{◌≡◌, ℕ, List, [], inl, inr, refl, ap, sym, ◌∙◌, subst, arith}
use Rattle.of_control.specs.Element.{Element}
use Rattle.of_control.specs.Reading.{body_in, read_by}
use Rattle.of_compile.specs.declared.element.PlainItem.{PlainItem}
use Rattle.of_source.specs.Nest.{Nest}
use Rattle.of_fcodes.specs.Lookup.{row_numbered}
use Rattle.of_fcodes.specs.Rows.{rows, first_rows, second_rows, third_rows, fourth_rows, fifth_rows, sixth_rows}
use Rattle.of_fcodes.specs.Rows.{seventh_rows}
use Rattle.of_stream.specs.Decoding.{Token}
use Rattle.of_source.specs.Nest.{Fits, open_behind}
use Rattle.of_tok.specs.declared.place.Place.{Place}
use Rattle.of_tok.specs.Tokens.{written}
use Rattle.of_meaning.specs.Elements.{ArePlain, elements_left}
use Rattle.of_meaning.proofs.Elements.{elements_of}
use Rattle.of_meaning.proofs.Leaving.{leaves}
use Rattle.of_source.specs.Laws.{ParsedIsNested}
use Rattle.of_source.specs.Nest.{ItemsGiveNest, items_of, nest_of, outside}
use Rattle.of_source.specs.Plain.{AcceptedIsPlain}
use Rattle.of_source.specs.Plain.{ArePlain as SourcePlain}
use Rattle.of_meaning.specs.Laws.{BodyOfNest, EachInside, HasItsBody, in_definition}
use Rattle.of_meaning.proofs.Accepted.{each_inside, plain_parts}
use Rattle.of_meaning.specs.Pairs.{Pairs, body_by, nest_body, none_yet, pairs}
use Rattle.of_meaning.proofs.Following.{Base, Comes, follow}
use Rattle.of_meaning.proofs.Stack.{Up, same_reading}

same_body : (i : Nest) (es : List (Element PlainItem)) (to : List ℕ) → Comes es (pairs i none_yet) 0 to []
    → body_in 32 es ≡ nest_body i es
same_body i es to (inl (stack, known)) = ap (read_by es) stack ∙ sym (ap (body_by es) known)
same_body i es to (inr h) =
    ap (read_by es) h.stack ∙ same_reading es h.partners h.known.partners h.up.closed
    ∙ sym (ap (body_by es) h.pairs_are)

whole : (f : Token → Place → PlainItem) (i : Nest) (d : ℕ) (p : Place) (to : List ℕ) → Fits i in_definition d d
    → open_behind i d ≡ d → body_in 32 (elements_of f i p to []) ≡ nest_body i (elements_of f i p to [])
whole f i d p to fits closed =
    let first : Pairs = record { count = 0; partners = []; open_ones = [] } in
    let base : Base in_definition [] = record { tops = refl; loops = λ e. absurd cc; cases = λ e. absurd cc } in
    let up : Up {A = PlainItem} [] [] [] first = record {
      count = refl;
      closed = refl;
      opened = refl;
      fresh = tt;
      few = omega arith;
    } in
    same_body i (elements_of f i p to []) to
    (follow f i in_definition d d 0 0 p to [] [] [] first [] refl fits (omega arith) (omega (arith, closed)) tt base
    refl up refl)

inside_body : (i : Nest) (d : ℕ) → Fits i in_definition d d → open_behind i d ≡ d → ArePlain i → HasItsBody i
inside_body i d fits closed plain f p to out =
    let left : elements_left f (written i p to out []) p [] ≡ elements_of f i p to []
    = leaves f i in_definition d d 0 0 p to out [] [] refl fits (omega arith) (omega (arith, closed)) tt
    (λ e. absurd cc) plain in
    ap (body_in 32) left ∙ whole f i d p to fits closed ∙ sym (ap (nest_body i) left)

pub body_of_nest : ParsedIsNested → AcceptedIsPlain → ItemsGiveNest → BodyOfNest
unfolding row_numbered rows first_rows second_rows third_rows fourth_rows fifth_rows sixth_rows seventh_rows
body_of_nest nested plain given = record {
  wider = refl;
  inside = inside_body;
  accepted = λ text s parses.
      let n = (nested text s parses).0 in
      let items : s.items ≡ items_of n.0 [] = n.1 in
      let nest : nest_of s.items ≡ n.0 = ap nest_of items ∙ given n.0 in
      let are = plain_parts n.0 [] [] (subst (λ l. SourcePlain [] l) items (plain text s parses)) in
      subst (λ x. EachInside HasItsBody x) (sym nest)
      (each_inside HasItsBody inside_body n.0 outside 0 0 n.2.0 are.0);
}
