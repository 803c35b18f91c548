-- The words of an accepted source, and where `offset16` stands in it.
use Rattle.std.proofs.Common.{◌≡◌, ◌⊎◌, inl, inr, ℕ, zero, suc, ◌+◌, ◌-◌, ◌<◌, ◌≤◌, ◌&&◌, not, Bool, true, false}
use Rattle.std.proofs.Common.{nat_eq}
use Rattle.std.proofs.Common.{List, [], ◌∷◌, ◌++◌, Option, Some, None, option_and_then, refl, sym, ap, ◌∙◌, subst}
use Rattle.std.proofs.Common.{arith}
use Rattle.std.proofs.Common.{eqb-true}
use Rattle.std.specs.List.{list_all}
use Rattle.std.proofs.lemmas.Bool.{eq-eqb, lt-ltb}
use Rattle.of_stream.specs.Decoding.{Token}
use Rattle.of_source.specs.declared.nesting.Part.{Part}
use Rattle.of_source.specs.declared.nesting.Part.TheVariants as part
use Rattle.of_source.specs.Items.{Item}
use Rattle.of_source.specs.Items as item
use Rattle.of_source.specs.Nest.{Fits, Nest, Stop, Plain, Definition, Defining, If, Else, Then, Begin, Do, Leave, Case}
use Rattle.of_source.specs.Nest.{Of}
use Rattle.of_source.specs.Nest.{items_of, open_behind}
use Rattle.of_source.specs.Nesting.{is_same}
use Rattle.of_source.specs.Plain.{ArePlain}
use Rattle.of_source.specs.Shapes.{Shape, around_of, floor_of, nothing, opens, pushed, run, when}
use Rattle.of_source.specs.Written.{IsStraight, LeaveOpen}
use Rattle.of_means.specs.Sources.{HasWords, IsSteady, KeepsSize, WidensOutside}
use Rattle.of_means.proofs.Aims.{least}

-- ---- what is open behind one more item

last_run : (x : Option Shape) → option_and_then (run []) x ≡ x
last_run None = refl
last_run (Some o) = refl

some_is : {A : Type 0} (x y : A) (o : Option A) → o ≡ Some x → o ≡ Some y → x ≡ y
some_is x y o e f = same (sym e ∙ f)
  where
    same : Some x ≡ Some y → x ≡ y
    same h = cc

run_on : (front : List Item) (i : Item) (s o : Shape) → run front s ≡ Some o → run (front ++ i ∷ []) s ≡ opens i o
run_on [] i s o e = last_run (opens i s) ∙ ap (opens i) (some_is s o (Some s) refl e)
run_on (j ∷ front) i s o e = by_first (opens j s) refl (λ t h. run_on front i t o h)
  where
    by_first : (x : Option Shape) → opens j s ≡ x
        → ((t : Shape) → run front t ≡ Some o → run (front ++ i ∷ []) t ≡ opens i o)
        → option_and_then (run (front ++ i ∷ [])) (opens j s) ≡ opens i o
    by_first None f more = absurd (no (sym (ap (option_and_then (run front)) f) ∙ e))
      where
        no : None ≡ Some o → ⊥
        no h = cc
    by_first (Some t) f more =
        ap (option_and_then (run (front ++ i ∷ []))) f ∙ more t (sym (ap (option_and_then (run front)) f) ∙ e)

when_true : (b : Bool) (o : Shape) → b ≡ true → when b o ≡ Some o
when_true true o e = refl
when_true false o e = absurd (no e)
  where
    no : false ≡ true → ⊥
    no h = cc

-- ---- no control structure is open

-- no control structure may be closed here, so that one is open
abbrev Blocked : Shape → Type 0
Blocked o = (list_all (λ (p : Part × ℕ). is_same p.0 part.Definition) o.parts ≡ false) ⊎ (0 < floor_of o.parts)

straight_here : (front : List Item) (o : Shape) → run front nothing ≡ Some o → LeaveOpen front IsStraight
    → IsStraight o
straight_here front o e (p, f, s) = subst (λ x. IsStraight x) (some_is p o (run front nothing) f e) s

never_both : true ≡ false → ⊥
never_both e = cc

not_straight : (o : Shape) → floor_of o.parts ≤ o.count → Blocked o → IsStraight o → ⊥
not_straight o le (inl b) s = never_both (sym s.1 ∙ b)
not_straight o le (inr b) s = omega (arith, b, le, s.0)

-- a part that closes all that it opens
evenly : (n d : ℕ) (ps : List (Part × ℕ)) → n ≡ d
    → when (nat_eq d n) (record { count = n; parts = ps }) ≡ Some (record { count = d; parts = ps })
evenly n d ps e =
    when_true (nat_eq d n) (record { count = n; parts = ps }) (eq-eqb d n (sym e))
    ∙ ap (λ (c : ℕ). (let x : Option Shape = Some (record { count = c; parts = ps }) in x)) e

both_true : (a b : Bool) → a ≡ true → b ≡ true → (a && b) ≡ true
both_true true b e f = f
both_true false b e f = e

-- a definition whose words keep the size, or no branch is open around it
closed_or : (i : Nest) (d k : ℕ) → d ≡ k → (0 < d → KeepsSize i) → KeepsSize i ⊎ (d ≡ 0)
closed_or i d zero e h = inr e
closed_or i d (suc k) e h = inl (h (omega (arith, e)))

steady_or : (t : Token) (d : ℕ) (b : Bool) → nat_eq t.code.0 0x0cc ≡ b → (t.code.0 ≡ 0x0cc → d ≡ 0)
    → IsSteady t ⊎ (d ≡ 0)
steady_or t d true e h = inr (h (eqb-true t.code.0 0x0cc e))
steady_or t d false e h = inl (λ f. never_both (sym (eq-eqb t.code.0 0x0cc f) ∙ e))

-- ---- the words of a nest, behind items

abbrev Walked : Nest → Shape → List Item → Type 0
Walked x o more =
    HasWords x × (Blocked o → KeepsSize x) × (o.parts ≡ [] → WidensOutside x o.count)
    × ((behind : List Item)
    × (run behind nothing ≡ Some (record { count = open_behind x o.count; parts = o.parts })) × ArePlain behind more)

abbrev Walks : Nest → Type 0
Walks x =
    (o : Shape) (front more : List Item) → floor_of o.parts ≤ o.count
    → Fits x (around_of o.parts) (floor_of o.parts) o.count → run front nothing ≡ Some o
    → ArePlain front (items_of x more) → Walked x o more

pub walk : (x : Nest) → Walks x
walk Stop o front more le fits e h = (tt, (λ b. tt), (λ f. tt), (front, e, h))
walk (Plain t r) o front more le fits e h =
    let n = walk r o (front ++ item.Plain t ∷ []) more le fits (run_on front (item.Plain t) nothing o e) h.2 in (
      (h.0, n.0),
      (λ b. ((λ f. not_straight o le b (straight_here front o e (h.1 f))), n.1 b)),
      (λ p. (steady_or t o.count (nat_eq t.code.0 0x0cc) refl (λ f. (straight_here front o e (h.1 f)).0), n.2 p)),
      n.3,
    )
walk (Definition m i r) o front more le fits e h =
    let p = pushed part.Definition o in
    let begun = run_on front (item.Colon m) nothing o e ∙ when_true _ p (ap not fits.0) in
    let a = walk i p (front ++ item.Colon m ∷ []) (item.Semicolon ∷ items_of r more) (omega arith) fits.1 begun h in
    let ended = run_on a.3.0 item.Semicolon nothing (record { count = open_behind i o.count; parts = p.parts }) a.3.1
    ∙ evenly (open_behind i o.count) o.count o.parts fits.2 in
    let n = walk r o (a.3.0 ++ item.Semicolon ∷ []) more le fits.3 ended a.3.2 in (
      (a.0, n.0),
      (λ b. (a.1 (within b), n.1 b)),
      (λ f. (closed_or i o.count o.count refl (λ lt. a.1 (inr lt)), n.2 f)),
      n.3,
    )
  where
    within : Blocked o → Blocked (pushed part.Definition o)
    within (inl b) = inl b
    within (inr b) = inr (omega (arith, b, le))
walk (Defining m t r) o front more le fits e h =
    let begun = run_on front (item.Defining m t) nothing o e ∙ when_true _ o (ap not fits.0) in
    let n = walk r o (front ++ item.Defining m t ∷ []) more le fits.1 begun h.1 in
    ((h.0, n.0), n.1, n.2, n.3)
walk (If l r) o front more le fits e h =
    let p : Shape = record { count = o.count + 1; parts = o.parts } in
    walk r p (front ++ item.If l ∷ []) more (omega (arith, le)) fits (run_on front (item.If l) nothing o e) h
walk (Else l r) o front more le fits e h =
    let begun = run_on front (item.Else l) nothing o e ∙ when_true _ o (lt-ltb (floor_of o.parts) o.count fits.0) in
    walk r o (front ++ item.Else l ∷ []) more le fits.1 begun h
walk (Then r) o front more le fits e h =
    let p : Shape = record { count = o.count - 1; parts = o.parts } in
    let begun = run_on front item.Then nothing o e ∙ when_true _ p (lt-ltb (floor_of o.parts) o.count fits.0) in
    walk r p (front ++ item.Then ∷ []) more (omega (arith, fits.0)) fits.1 begun h
walk (Begin i z l r) o front more le fits e h =
    let p = pushed part.Begin o in
    let a = walk i p (front ++ item.Begin ∷ []) (item.Back z l ∷ items_of r more) (omega arith) fits.0
    (run_on front item.Begin nothing o e) h in
    let q : Shape = record { count = open_behind i o.count; parts = o.parts } in
    let ended = run_on a.3.0 (item.Back z l) nothing
    (record { count = open_behind i o.count; parts = p.parts }) a.3.1 in
    let up = least i _ o.count o.count (omega arith) fits.0 in
    let n = walk r q (a.3.0 ++ item.Back z l ∷ []) more (omega (arith, le, up)) fits.1 ended a.3.2 in
    ((a.0, n.0), (λ b. (a.1 (inl refl), n.1 b)), (λ f. (a.1 (inl refl), n.2 f)), n.3)
walk (Do v k i l m r) o front more le fits e h =
    let p = pushed part.Do o in
    let a = walk i p (front ++ item.Do v k ∷ []) (item.Loop l m ∷ items_of r more) (omega arith) fits.0
    (run_on front (item.Do v k) nothing o e) h in
    let ended = run_on a.3.0 (item.Loop l m) nothing (record { count = open_behind i o.count; parts = p.parts }) a.3.1
    ∙ evenly (open_behind i o.count) o.count o.parts fits.1 in
    let n = walk r o (a.3.0 ++ item.Loop l m ∷ []) more le fits.2 ended a.3.2 in
    ((a.0, n.0), (λ b. (a.1 (inl refl), n.1 b)), (λ f. (a.1 (inl refl), n.2 f)), n.3)
walk (Leave r) o front more le fits e h =
    let begun = run_on front item.Leave nothing o e ∙ when_true _ o fits.0 in
    walk r o (front ++ item.Leave ∷ []) more le fits.1 begun h
walk (Case i r) o front more le fits e h =
    let p = pushed part.Case o in
    let a = walk i p (front ++ item.Case ∷ []) (item.EndCase ∷ items_of r more) (omega arith) fits.0
    (run_on front item.Case nothing o e) h in
    let ended = run_on a.3.0 item.EndCase nothing (record { count = open_behind i o.count; parts = p.parts }) a.3.1
    ∙ evenly (open_behind i o.count) o.count o.parts fits.1 in
    let n = walk r o (a.3.0 ++ item.EndCase ∷ []) more le fits.2 ended a.3.2 in
    ((a.0, n.0), (λ b. (a.1 (inl refl), n.1 b)), (λ f. (a.1 (inl refl), n.2 f)), n.3)
walk (Of k i m r) o front more le fits e h =
    let p = pushed part.Of o in
    let begun = run_on front (item.Of k) nothing o e
    ∙ when_true _ p (both_true _ _ fits.0 (eq-eqb (floor_of o.parts) o.count fits.1)) in
    let a = walk i p (front ++ item.Of k ∷ []) (item.EndOf m ∷ items_of r more) (omega arith) fits.2 begun h in
    let ended = run_on a.3.0 (item.EndOf m) nothing (record { count = open_behind i o.count; parts = p.parts }) a.3.1
    ∙ evenly (open_behind i o.count) o.count o.parts fits.3 in
    let n = walk r o (a.3.0 ++ item.EndOf m ∷ []) more le fits.4 ended a.3.2 in
    ((a.0, n.0), (λ b. (a.1 (inl refl), n.1 b)), (λ f. (a.1 (inl refl), n.2 f)), n.3)
