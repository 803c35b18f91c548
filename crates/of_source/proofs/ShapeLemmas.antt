-- The nest of items that leave nothing open.
use Rattle.std.proofs.Common.{◌≡◌, ℕ, ◌+◌, ◌-◌, ◌<◌, Bool, true, false, not, ◌&&◌, List, [], ◌∷◌, Option, Some, nat_eq}
use Rattle.std.proofs.lemmas.Bool.{and_parts}
use Rattle.std.proofs.Common.{nat_lt, refl, sym, ap, subst, arith}
use Rattle.std.specs.Prelude.{option_and_then}
use Rattle.std.proofs.lemmas.Bool.Decides.{nat_tests}
use Rattle.of_source.specs.declared.nesting.Part.{Part}
use Rattle.of_source.specs.declared.nesting.Part.TheVariants as part
use Rattle.of_source.specs.Items.{Item, Made}
use Rattle.of_source.specs.Items as item
use Rattle.of_source.specs.Nesting.{is_same}
use Rattle.of_source.specs.Nest.{Nest, items_of, open_behind, Fits, IsNested, Inside, after_closer, opened_by}
use Rattle.of_source.specs.Nest.{read_back}
use Rattle.of_source.specs.Shapes.{Shape, nothing, floor_of, around_of, when, pushed, is_even, closing, run}

-- ---- a nest with what is around it

abbrev pub closers : List (Item × Nest) → List Item
closers [] = []
closers (c ∷ cs) = c.0 ∷ items_of c.1 (closers cs)

abbrev pub Closes : Part → Item → Type 0
Closes part.Definition item.Semicolon = Unit {0}
Closes part.Begin (item.Back z l) = Unit {0}
Closes part.Do (item.Loop q l) = Unit {0}
Closes part.Case item.EndCase = Unit {0}
Closes part.Of (item.EndOf l) = Unit {0}
Closes _ _ = ⊥

abbrev pub IsEven : Part → ℕ → ℕ → Type 0
IsEven part.Begin b e = Unit {0}
IsEven part.Definition b e = e ≡ b
IsEven part.Do b e = e ≡ b
IsEven part.Case b e = e ≡ b
IsEven part.Of b e = e ≡ b

abbrev pub FitsAt : Nest → ℕ → List (Part × ℕ) → Type 0
FitsAt x d ps = Fits x (around_of ps) (floor_of ps) d

-- the parts around a nest behind which e branches are open, each with its closer and what follows
abbrev pub FitsAround : ℕ → List (Item × Nest) → List (Part × ℕ) → Type 0
FitsAround e [] [] = e ≡ 0
FitsAround e (c ∷ cs) (p ∷ ps) = Closes p.0 c.0 × IsEven p.0 p.1 e × FitsAt c.1 e ps
    × FitsAround (open_behind c.1 e) cs ps
FitsAround e _ _ = ⊥

-- items that read back to this
pub record Reads (is : List Item) (q : Inside) (d : ℕ) (ps : List (Part × ℕ)) : Type 0 where
  pub items : is ≡ items_of q.nest (closers q.around)
  pub fits : FitsAt q.nest d ps
  pub rest : FitsAround (open_behind q.nest d) q.around ps

-- ---- openers

begin_read : (c : Item) (x r : Nest) (cs : List (Item × Nest)) (is : List Item) (d : ℕ) (ps : List (Part × ℕ))
    → Reads is (record { nest = x; around = (c, r) ∷ cs }) d ((part.Begin, d) ∷ ps)
    → Reads (item.Begin ∷ is) (opened_by item.Begin x ((c, r) ∷ cs)) d ps
begin_read (item.Back z l) x r cs is d ps h =
    record { items = ap (λ js. item.Begin ∷ js) h.items; fits = (h.fits, h.rest.2); rest = h.rest.3 }
begin_read _ x r cs is d ps h = absurd h.rest.0

definition_read : (m : Made) (c : Item) (x r : Nest) (cs : List (Item × Nest)) (is : List Item) (d : ℕ)
    (ps : List (Part × ℕ))
    → (around_of ps).defines ≡ false
    → Reads is (record { nest = x; around = (c, r) ∷ cs }) d ((part.Definition, d) ∷ ps)
    → Reads (item.Colon m ∷ is) (opened_by (item.Colon m) x ((c, r) ∷ cs)) d ps
definition_read m item.Semicolon x r cs is d ps n h =
    let P : ℕ → Type 0 = λ e. FitsAt r e ps × FitsAround (open_behind r e) cs ps in
    let k : FitsAt r d ps × FitsAround (open_behind r d) cs ps = subst P h.rest.1 (h.rest.2, h.rest.3) in
    record { items = ap (λ js. item.Colon m ∷ js) h.items; fits = (n, h.fits, h.rest.1, k.0); rest = k.1 }
definition_read m _ x r cs is d ps n h = absurd h.rest.0

do_read : (q : Bool) (l : ℕ) (c : Item) (x r : Nest) (cs : List (Item × Nest)) (is : List Item) (d : ℕ)
    (ps : List (Part × ℕ))
    → Reads is (record { nest = x; around = (c, r) ∷ cs }) d ((part.Do, d) ∷ ps)
    → Reads (item.Do q l ∷ is) (opened_by (item.Do q l) x ((c, r) ∷ cs)) d ps
do_read q l (item.Loop p m) x r cs is d ps h =
    let P : ℕ → Type 0 = λ e. FitsAt r e ps × FitsAround (open_behind r e) cs ps in
    let k : FitsAt r d ps × FitsAround (open_behind r d) cs ps = subst P h.rest.1 (h.rest.2, h.rest.3) in
    record { items = ap (λ js. item.Do q l ∷ js) h.items; fits = (h.fits, h.rest.1, k.0); rest = k.1 }
do_read q l _ x r cs is d ps h = absurd h.rest.0

case_read : (c : Item) (x r : Nest) (cs : List (Item × Nest)) (is : List Item) (d : ℕ) (ps : List (Part × ℕ))
    → Reads is (record { nest = x; around = (c, r) ∷ cs }) d ((part.Case, d) ∷ ps)
    → Reads (item.Case ∷ is) (opened_by item.Case x ((c, r) ∷ cs)) d ps
case_read item.EndCase x r cs is d ps h =
    let P : ℕ → Type 0 = λ e. FitsAt r e ps × FitsAround (open_behind r e) cs ps in
    let k : FitsAt r d ps × FitsAround (open_behind r d) cs ps = subst P h.rest.1 (h.rest.2, h.rest.3) in
    record { items = ap (λ js. item.Case ∷ js) h.items; fits = (h.fits, h.rest.1, k.0); rest = k.1 }
case_read _ x r cs is d ps h = absurd h.rest.0

of_read : (l : ℕ) (c : Item) (x r : Nest) (cs : List (Item × Nest)) (is : List Item) (d : ℕ) (ps : List (Part × ℕ))
    → (around_of ps).cases ≡ true → floor_of ps ≡ d
    → Reads is (record { nest = x; around = (c, r) ∷ cs }) d ((part.Of, d) ∷ ps)
    → Reads (item.Of l ∷ is) (opened_by (item.Of l) x ((c, r) ∷ cs)) d ps
of_read l (item.EndOf m) x r cs is d ps n f h =
    let P : ℕ → Type 0 = λ e. FitsAt r e ps × FitsAround (open_behind r e) cs ps in
    let k : FitsAt r d ps × FitsAround (open_behind r d) cs ps = subst P h.rest.1 (h.rest.2, h.rest.3) in
    record { items = ap (λ js. item.Of l ∷ js) h.items; fits = (n, f, h.fits, h.rest.1, k.0); rest = k.1 }
of_read l _ x r cs is d ps n f h = absurd h.rest.0

-- ---- an item before what is read

begin_any : (x : Nest) (cs : List (Item × Nest)) (is : List Item) (d : ℕ) (ps : List (Part × ℕ))
    → Reads is (record { nest = x; around = cs }) d ((part.Begin, d) ∷ ps)
    → Reads (item.Begin ∷ is) (opened_by item.Begin x cs) d ps
begin_any x [] is d ps h = absurd h.rest
begin_any x (c ∷ cs) is d ps h = begin_read c.0 x c.1 cs is d ps h

definition_any : (m : Made) (x : Nest) (cs : List (Item × Nest)) (is : List Item) (d : ℕ) (ps : List (Part × ℕ))
    → (around_of ps).defines ≡ false
    → Reads is (record { nest = x; around = cs }) d ((part.Definition, d) ∷ ps)
    → Reads (item.Colon m ∷ is) (opened_by (item.Colon m) x cs) d ps
definition_any m x [] is d ps n h = absurd h.rest
definition_any m x (c ∷ cs) is d ps n h = definition_read m c.0 x c.1 cs is d ps n h

do_any : (q : Bool) (l : ℕ) (x : Nest) (cs : List (Item × Nest)) (is : List Item) (d : ℕ) (ps : List (Part × ℕ))
    → Reads is (record { nest = x; around = cs }) d ((part.Do, d) ∷ ps)
    → Reads (item.Do q l ∷ is) (opened_by (item.Do q l) x cs) d ps
do_any q l x [] is d ps h = absurd h.rest
do_any q l x (c ∷ cs) is d ps h = do_read q l c.0 x c.1 cs is d ps h

case_any : (x : Nest) (cs : List (Item × Nest)) (is : List Item) (d : ℕ) (ps : List (Part × ℕ))
    → Reads is (record { nest = x; around = cs }) d ((part.Case, d) ∷ ps)
    → Reads (item.Case ∷ is) (opened_by item.Case x cs) d ps
case_any x [] is d ps h = absurd h.rest
case_any x (c ∷ cs) is d ps h = case_read c.0 x c.1 cs is d ps h

of_any : (l : ℕ) (x : Nest) (cs : List (Item × Nest)) (is : List Item) (d : ℕ) (ps : List (Part × ℕ))
    → (around_of ps).cases ≡ true → floor_of ps ≡ d
    → Reads is (record { nest = x; around = cs }) d ((part.Of, d) ∷ ps)
    → Reads (item.Of l ∷ is) (opened_by (item.Of l) x cs) d ps
of_any l x [] is d ps n f h = absurd h.rest
of_any l x (c ∷ cs) is d ps n f h = of_read l c.0 x c.1 cs is d ps n f h

pub when_some : (b : Bool) (o : Shape) (k : Shape → Option Shape) (n : Shape) → option_and_then k (when b o) ≡ Some n
    → (b ≡ true) × (k o ≡ Some n)
when_some true o k n h = (refl, h)
when_some false o k n h = absurd cc

pub not_true : (b : Bool) → not b ≡ true → b ≡ false
not_true true h = absurd cc
not_true false h = refl

less : (f d : ℕ) → nat_lt f d ≡ true → f < d
less f d h = grind (arith, nat_tests)

same_number : (a b : ℕ) → nat_eq a b ≡ true → a ≡ b
same_number a b h = grind (arith, nat_tests)

pub same_kind : (a k : Part) → is_same a k ≡ true → a ≡ k
same_kind part.Definition part.Definition h = refl
same_kind part.Begin part.Begin h = refl
same_kind part.Do part.Do h = refl
same_kind part.Case part.Case h = refl
same_kind part.Of part.Of h = refl
same_kind _ _ h = absurd cc

even : (k : Part) (b n : ℕ) → is_even k b n ≡ true → IsEven k b n
even part.Begin b n h = tt
even part.Definition b n h = sym (same_number b n h)
even part.Do b n h = sym (same_number b n h)
even part.Case b n h = sym (same_number b n h)
even part.Of b n h = sym (same_number b n h)

closer_read : (k : Part) (c : Item) (is : List Item) (n : ℕ) (ps : List (Part × ℕ)) (q : Inside) → Closes k c
    → ((o : Shape) → run is o ≡ Some nothing → Reads is q o.count o.parts)
    → option_and_then (run is) (closing k n ps) ≡ Some nothing → Reads (c ∷ is) (after_closer c q) n ps
closer_read k c is n [] q closes ih h = absurd cc
closer_read k c is n (p ∷ ps) q closes ih h =
    let o : Shape = record { count = n; parts = ps } in
    let w = when_some (is_same p.0 k && is_even k p.1 n) o (run is) nothing h in
    let t = and_parts (is_same p.0 k) (is_even k p.1 n) w.0 in
    let e = same_kind p.0 k t.0 in
    let r = ih o w.1 in
    let P : Part → Type 0 = λ (a : Part). Closes a c × IsEven a p.1 n in
    let m : Closes p.0 c × IsEven p.0 p.1 n = subst P (sym e) (closes, even k p.1 n t.1) in
    record { items = ap (λ js. c ∷ js) r.items; fits = tt; rest = (m.0, m.1, r.fits, r.rest) }

end_read : (o : Shape) → Some o ≡ Some nothing → FitsAround o.count [] o.parts
end_read o h =
    let e : nothing ≡ o = cc in
    let P : Shape → Type 0 = λ (s : Shape). FitsAround s.count [] s.parts in
    subst P e refl

-- items behind which nothing is open are a nest with what is around it
pub read : (is : List Item) (o : Shape) → run is o ≡ Some nothing → Reads is (read_back is) o.count o.parts
read [] o h = record { items = refl; fits = tt; rest = end_read o h }
read (item.Plain t ∷ is) o h = let r =
    read is o h in record { items = ap (λ js. item.Plain t ∷ js) r.items; fits = r.fits; rest = r.rest }
read (item.If l ∷ is) o h =
    let r = read is (record { count = o.count + 1; parts = o.parts }) h in
    record { items = ap (λ js. item.If l ∷ js) r.items; fits = r.fits; rest = r.rest }
read (item.Else l ∷ is) o h =
    let w = when_some (nat_lt (floor_of o.parts) o.count) o (run is) nothing h in
    let r = read is o w.1 in
    record {
      items = ap (λ js. item.Else l ∷ js) r.items;
      fits = (less (floor_of o.parts) o.count w.0, r.fits);
      rest =
          r.rest;
    }
read (item.Then ∷ is) o h =
    let s : Shape = record { count = o.count - 1; parts = o.parts } in
    let w = when_some (nat_lt (floor_of o.parts) o.count) s (run is) nothing h in
    let r = read is s w.1 in
    record {
      items = ap (λ js. item.Then ∷ js) r.items;
      fits = (less (floor_of o.parts) o.count w.0, r.fits);
      rest =
          r.rest;
    }
read (item.Leave ∷ is) o h =
    let w = when_some (around_of o.parts).loops o (run is) nothing h in
    let r = read is o w.1 in
    record { items = ap (λ js. item.Leave ∷ js) r.items; fits = (w.0, r.fits); rest = r.rest }
read (item.Begin ∷ is) o h =
    begin_any (read_back is).nest (read_back is).around is o.count o.parts (read is (pushed part.Begin o) h)
read (item.Do q l ∷ is) o h =
    do_any q l (read_back is).nest (read_back is).around is o.count o.parts (read is (pushed part.Do o) h)
read (item.Case ∷ is) o h =
    case_any (read_back is).nest (read_back is).around is o.count o.parts (read is (pushed part.Case o) h)
read (item.Defining m t ∷ is) o h =
    let w = when_some (not (around_of o.parts).defines) o (run is) nothing h in
    let r = read is o w.1 in
    let outside = not_true (around_of o.parts).defines w.0 in
    record { items = ap (λ js. item.Defining m t ∷ js) r.items; fits = (outside, r.fits); rest = r.rest }
read (item.Colon m ∷ is) o h =
    let w = when_some (not (around_of o.parts).defines) (pushed part.Definition o) (run is) nothing h in
    definition_any m (read_back is).nest (read_back is).around is o.count o.parts
    (not_true (around_of o.parts).defines w.0) (read is (pushed part.Definition o) w.1)
read (item.Of l ∷ is) o h =
    let w = when_some ((around_of o.parts).cases && nat_eq (floor_of o.parts) o.count) (pushed part.Of o)
    (run is) nothing h in
    let t = and_parts (around_of o.parts).cases (nat_eq (floor_of o.parts) o.count) w.0 in
    of_any l (read_back is).nest (read_back is).around is o.count o.parts t.0
    (same_number (floor_of o.parts) o.count t.1) (read is (pushed part.Of o) w.1)
read (item.Semicolon ∷ is) o h =
    closer_read part.Definition item.Semicolon is o.count o.parts (read_back is) tt (λ s e. read is s e) h
read (item.Back z l ∷ is) o h =
    closer_read part.Begin (item.Back z l) is o.count o.parts (read_back is) tt (λ s e. read is s e) h
read (item.Loop q l ∷ is) o h =
    closer_read part.Do (item.Loop q l) is o.count o.parts (read_back is) tt (λ s e. read is s e) h
read (item.EndCase ∷ is) o h =
    closer_read part.Case item.EndCase is o.count o.parts (read_back is) tt (λ s e. read is s e) h
read (item.EndOf l ∷ is) o h =
    closer_read part.Of (item.EndOf l) is o.count o.parts (read_back is) tt (λ s e. read is s e) h

whole_read : (x : Nest) (cs : List (Item × Nest)) (is : List Item) → Reads is (record { nest = x; around = cs }) 0 []
    → IsNested is
whole_read x [] is h = (x, h.items, (h.fits, h.rest))
whole_read x (c ∷ cs) is h = absurd h.rest

-- items that leave nothing open are those of a whole nest
pub nested : (is : List Item) → run is nothing ≡ Some nothing → IsNested is
nested is h = whole_read (read_back is).nest (read_back is).around is (read is nothing h)
