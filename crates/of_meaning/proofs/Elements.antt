-- The elements that the words of a definition leave, by its nest.
use Rattle.std.specs.Prelude.{ℕ, if◌then◌else◌, List, ◌∷◌, Some, true, false}
use Rattle.of_stream.specs.Decoding.{Token}
use Rattle.of_control.specs.Element.{Element}
use Rattle.of_control.specs.Element as element
use Rattle.of_source.specs.Nest.{Nest, Stop, Plain, Definition, Defining, If, Else, Then, Begin, Do, Leave, Case, Of}
use Rattle.of_tok.specs.declared.place.Place.{Place}
use Rattle.of_tok.specs.Places.{behind, past, past_offset}
use Rattle.of_tok.specs.Tokens.{aims_of, end_of, first}
use Rattle.of_meaning.specs.Pairs.{leaves_one}

-- The elements behind the tokens of a nest at a place, the latest first, those before it given, and where the branches
-- lead that are open behind it. A plain token leaves an item that is told by token and place.
abbrev pub elements_of :
    {A : Type 0} → (Token → Place → A) → Nest → Place → List ℕ → List (Element A) → List (Element A)
elements_of f Stop p to es = es
elements_of f (Plain t r) p to es =
    elements_of f r (behind t p) to (if leaves_one t then element.Plain (f t p) ∷ es else es)
elements_of f (Definition m i r) p to es = es
elements_of f (Defining m t r) p to es = es
elements_of f (If l r) p to es =
    let q = past_offset p in
    elements_of f r q to (element.Branch true (Some (first (aims_of r q to))) ∷ es)
elements_of f (Else l r) p to es =
    let e = past_offset p in
    let q = past 1 e in
    elements_of f r q to
    (element.Resolve (Some e.position) ∷ element.Branch false (Some (first (aims_of r q to))) ∷ es)
elements_of f (Then r) p to es = elements_of f r (past 1 p) to (element.Resolve (Some p.position) ∷ es)
elements_of f (Begin i z l r) p to es =
    let b = past 1 p in
    let q = past_offset (end_of i b) in
    elements_of f r q to
    (element.Back z (Some b.position) ∷ elements_of f i b (aims_of r q to) (element.Mark (Some p.position) ∷ es))
elements_of f (Do v k i l m r) p to es =
    let b = past_offset p in
    let q = past_offset (end_of i b) in
    elements_of f r q to (element.Loop l ∷ elements_of f i b (aims_of r q to) (element.Do v ∷ es))
elements_of f (Leave r) p to es = elements_of f r (past 1 p) to (element.Leave ∷ es)
elements_of f (Case i r) p to es =
    let b = past 1 p in
    let q = past 1 (end_of i b) in
    elements_of f r q to (element.EndCase ∷ elements_of f i b (aims_of r q to) (element.Case ∷ es))
elements_of f (Of k i m r) p to es =
    let b = past_offset p in
    let q = past_offset (end_of i b) in
    elements_of f r q to (element.EndOf ∷ elements_of f i b (aims_of r q to) (element.Of ∷ es))
