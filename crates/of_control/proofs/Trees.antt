-- Bodies as trees, and which ways out of them there are.
use Rattle.std.proofs.Common.{◌≡◌, ℕ, zero, suc, ◌+◌, ◌<◌, Bool, true, false, [], ◌∷◌, ◌++◌, Some, None, refl, ap, ◌∙◌}
use Rattle.std.proofs.Common.{arith, ◌≤◌, List, length, sym, subst}
use Rattle.std.specs.Prelude.{IsTrue, map, ◌==◌, if◌then◌else◌, slice_index}
use Rattle.of_control.specs.Body.{Arm, Block, Body, Choice, Counted, Cycle, End, Jump, LeaveLoop, Operation, body_size}
use Rattle.of_control.specs.Body.{items_at, items_of}
use Rattle.of_control.specs.Tight.{Each, IsTight, first_size, AtEnd, BeginsWithArm, Beyond, Inside, IsBlock, IsCycle}
use Rattle.of_control.specs.Tight.{IsOther, IsReading, IsShorter, Way, outward, shut, ways}
use Rattle.of_control.proofs.Unique.{Slot, Out, Again, Drops, AnOperation, ALeave, AJump, ABlock, ACycle, ACounted}
use Rattle.of_control.proofs.Unique.{AChoice, AnArm, Tree, Leaf, Node, size, close, slots, each-append, each-map, Does}
use Rattle.of_control.proofs.Unique.{Leaves, To, Enters, Tests, Aims, each-more, each-both, aims-more, within, first}
use Rattle.std.proofs.lemmas.Bool.{ne_eqb, eq-eqb, cases_eq}
use Rattle.std.proofs.lemmas.List.{append-nil, append_assoc, map-append, length-map}
use Rattle.of_control.specs.Element.{Element}
use Rattle.of_control.specs.Matching.{Partners}
use Rattle.of_control.specs.Items.{DropSelector, EndArm, EnterLoop, ExitLoop, Item, JumpTo, Perform, RepeatLoop}
use Rattle.of_control.specs.Items.{TestArm}
use Rattle.of_control.proofs.Unique
use Rattle.of_control.proofs.Unique.{wide_left, IsInner, IsLeft, IsRepeated, IsShut, Tight, first, hits, same}

abbrev pub tree : {A : Type 0} → Body A → Tree A
tree End = Leaf
tree (Operation a r) = Node (AnOperation a) Leaf (tree r)
tree (LeaveLoop r) = Node ALeave Leaf (tree r)
tree (Jump z k r) = Node (AJump z k) Leaf (tree r)
tree (Block b r) = Node ABlock (tree b) (tree r)
tree (Cycle b r) = Node ACycle (tree b) (tree r)
tree (Counted q b l r) = Node (ACounted q l) (tree b) (tree r)
tree (Choice b r) = Node AChoice (tree b) (tree r)
tree (Arm b r) = Node AnArm (tree b) (tree r)

abbrev pub body : {A : Type 0} → Tree A → Body A
body Leaf = End
body (Node (AnOperation a) i r) = Operation a (body r)
body (Node ALeave i r) = LeaveLoop (body r)
body (Node (AJump z k) i r) = Jump z k (body r)
body (Node ABlock i r) = Block (body i) (body r)
body (Node ACycle i r) = Cycle (body i) (body r)
body (Node (ACounted q l) i r) = Counted q (body i) l (body r)
body (Node AChoice i r) = Choice (body i) (body r)
body (Node AnArm i r) = Arm (body i) (body r)

pub back : {A : Type 0} → (b : Body A) → body (tree b) ≡ b
back End = refl
back (Operation a r) = ap (λ s. Operation a s) (back r)
back (LeaveLoop r) = ap (λ s. LeaveLoop s) (back r)
back (Jump z k r) = ap (λ s. Jump z k s) (back r)
back (Block b r) = ap (λ c. Block c (body (tree r))) (back b) ∙ ap (λ s. Block b s) (back r)
back (Cycle b r) = ap (λ c. Cycle c (body (tree r))) (back b) ∙ ap (λ s. Cycle b s) (back r)
back (Counted q b l r) = ap (λ c. Counted q c l (body (tree r))) (back b) ∙ ap (λ s. Counted q b l s) (back r)
back (Choice b r) = ap (λ c. Choice c (body (tree r))) (back b) ∙ ap (λ s. Choice b s) (back r)
back (Arm b r) = ap (λ c. Arm c (body (tree r))) (back b) ∙ ap (λ s. Arm b s) (back r)

pub size-tree : {A : Type 0} → (b : Body A) → size (tree b) ≡ body_size b
size-tree End = refl
size-tree (Operation a r) = omega (arith, size-tree r)
size-tree (LeaveLoop r) = omega (arith, size-tree r)
size-tree (Jump z k r) = omega (arith, size-tree r)
size-tree (Block b r) = omega (arith, size-tree b, size-tree r)
size-tree (Cycle b r) = omega (arith, size-tree b, size-tree r)
size-tree (Counted q b l r) = omega (arith, size-tree b, size-tree r)
size-tree (Choice b r) = omega (arith, size-tree b, size-tree r)
size-tree (Arm b r) = omega (arith, size-tree b, size-tree r)

pub first-tree : {A : Type 0} → (b : Body A) → first (tree b) ≡ first_size b
first-tree b = grind (arith, size-tree)

-- ---- which ways out there are

abbrev pub IsSeen : {A : Type 0} → ℕ → Bool → Slot A → Type 0
IsSeen m c (Out (Some z) k) = k < m
IsSeen m c (Out None zero) = IsTrue c
IsSeen m c (Out None (suc k)) = ⊥
IsSeen m c _ = Unit {0}

pub seen-close : {A : Type 0} → (m t : ℕ) (c : Bool) (x : Slot A) → IsSeen (suc m) false x → IsSeen m c (close t x)
seen-close m t c x h = grind (arith)

pub seen-arms : {A : Type 0} → (m t : ℕ) (c : Bool) (x : Slot A) → IsSeen 0 true x → IsSeen m c (close t x)
seen-arms m t c x h = grind (arith)

pub seen-shut : {A : Type 0} → (m : ℕ) (c : Bool) (x : Slot A) → IsSeen 0 false x → IsSeen m c x
seen-shut m c x h = grind (arith)

seen_part :
    {A : Type 0} → (m : ℕ) (c : Bool) (P : Slot A → Type 0) (f : Slot A → Slot A) (xs ys zs : List (Slot A)) →
    ((x : Slot A) → P x → IsSeen m c (f x)) → Each P xs → Each (IsSeen m c) ys → Each (IsSeen m c) zs →
    Each (IsSeen m c) ((map f xs ++ ys) ++ zs)
seen_part m c P f xs ys zs g h k l =
    each-append (IsSeen m c) _ zs (each-append (IsSeen m c) (map f xs) ys (each-map P (IsSeen m c) f xs g h) k) l

pub seen :
    {A : Type 0} → (m : ℕ) (d c : Bool) (b : Body A) (n : ℕ) → IsTight m d c b → Each (IsSeen m c) (slots (tree b) n)
seen m d c End n w = tt
seen m d c (Operation a r) n w = (tt, seen m d c r (n + 1) w)
seen m d c (LeaveLoop r) n w = (tt, seen m d c r (n + 1) w.1)
seen m d c (Jump z k r) n w = (w.0, seen m d c r (n + 1) w.1)
seen m d c (Block b r) n w =
    seen_part m c (IsSeen (suc m) false) (close _) _ [] _ (seen-close m (n + size (tree b)) c)
    (seen (suc m) d false b n w.1) tt (seen m d c r _ w.2)
seen m d c (Cycle b r) n w =
    seen_part m c (IsSeen (suc m) false) (close _) _ [] _ (seen-close m n c) (seen (suc m) d false b n w.1) tt
    (seen m d c r _ w.2)
seen m d c (Counted q b l r) n w = (
  tt,
  seen_part m c (IsSeen 0 false) (λ x. x) _ (Again l ∷ []) _ (seen-shut m c) (seen 0 true false b (suc n) w.0)
      (tt, tt) (seen m d c r _ w.1),
)
seen m d c (Choice b r) n w =
    seen_part m c (IsSeen 0 true) (close _) _ (Drops ∷ []) _ (seen-arms m (n + suc (size (tree b))) c)
    (seen 0 d true b n w.1) (tt, tt) (seen m d c r _ w.2)
seen m d c (Arm b r) n w = (
  tt,
  seen_part m c (IsSeen 0 false) (λ x. x) _ (Out None 0 ∷ []) _ (seen-shut m c) (seen 0 d false b (suc n) w.1)
      (w.0, tt) (seen m d c r _ w.2),
)

-- ---- the ways of the items

abbrev way_of : {A : Type 0} → ℕ → Slot A → Way
way_of e (Out (Some z) k) = Beyond k
way_of e (To (Some z) u) = if u == e then AtEnd else Inside
way_of e _ = Inside

-- what is split as a list of ways is split as a list of items
record Found {A : Type 0} (e : ℕ) (xs : List (Slot A)) (ws : List Way) (w : Way) (vs : List Way) : Type 0 where
  pub earlier : List (Slot A)
  pub here : Slot A
  pub later : List (Slot A)
  pub split : xs ≡ earlier ++ (here ∷ later)
  pub ways_before : map (way_of e) earlier ≡ ws
  pub way_here : way_of e here ≡ w
  pub ways_after : map (way_of e) later ≡ vs

found :
    {A : Type 0} → (e : ℕ) (xs : List (Slot A)) (ws : List Way) (w : Way) (vs : List Way) →
    map (way_of e) xs ≡ ws ++ (w ∷ vs) → Found e xs ws w vs
found e [] [] w vs h = let bad : ⊥ = cc in absurd bad
found e [] (u ∷ ws) w vs h = let bad : ⊥ = cc in absurd bad
found e (x ∷ xs) [] w vs h =
    let a : way_of e x ≡ w = cc in
    let b : map (way_of e) xs ≡ vs = cc in
    record { earlier = []; here = x; later = xs; split = refl; ways_before = refl; way_here = a; ways_after = b }
found e (x ∷ xs) (u ∷ ws) w vs h =
    let a : way_of e x ≡ u = cc in
    let b : map (way_of e) xs ≡ ws ++ (w ∷ vs) = cc in
    let r = found e xs ws w vs b in
    record {
      earlier = x ∷ r.earlier;
      here = r.here;
      later = r.later;
      split = ap (λ l. x ∷ l) {y = r.earlier ++ (r.here ∷ r.later)} r.split;
      ways_before =
          ap (λ y. y ∷ map (way_of e) r.earlier) a ∙ ap (λ l. u ∷ l) {x = map (way_of e) r.earlier} r.ways_before;
      way_here = r.way_here;
      ways_after = r.ways_after;
    }

each-unmap :
    {A : Type 0} → (P : Way → Type 0) (f : Slot A → Way) (xs : List (Slot A)) → Each P (map f xs) →
    Each (λ x. P (f x)) xs
each-unmap P f [] h = tt
each-unmap P f (x ∷ xs) h = (h.0, each-unmap P f xs h.1)

out_is : {A : Type 0} → (e : ℕ) (x : Slot A) → way_of e x ≡ Beyond 0 → (z : Bool) × (x ≡ Out (Some z) 0)
out_is e x h = grind arith

inner_is : {A : Type 0} → (m e : ℕ) (x : Slot A) → IsSeen m false x → IsOther (way_of e x) → IsInner x
inner_is m e x s h = grind (arith)

hits_not : {A : Type 0} → (e : ℕ) (x : Slot A) → IsShorter (way_of e x) → hits e x ≡ false
hits_not e x h = grind arith

shorter_other : (w : Way) → IsShorter w → IsOther w
shorter_other w h = grind (arith)

each-split : {A : Type 0} → (P : Slot A → Type 0) (xs ys : List (Slot A)) → Each P (xs ++ ys) → Each P xs × Each P ys
each-split P [] ys h = (tt, h)
each-split P (x ∷ xs) ys h = let r = each-split P xs ys h.1 in ((h.0, r.0), r.1)

-- what is known of the inside of a Block or Cycle, with its ways
record Opened {A : Type 0} (n : ℕ) (i : Tree A) (ws vs : List Way) : Type 0 where
  pub earlier : List (Slot A)
  pub by : Bool
  pub later : List (Slot A)
  pub split : slots i n ≡ earlier ++ (Out (Some by) 0 ∷ later)
  pub inner : Each IsInner earlier
  pub shorter : Each (λ x. hits (n + size i) x ≡ false) earlier
  pub one : Each IsInner later
  pub ways_before : length earlier ≡ length ws
  pub ways_after : length later ≡ length vs

opened :
    {A : Type 0} → (m n : ℕ) (i : Tree A) (ws vs : List Way) → Each (IsSeen m false) (slots i n) → Each IsShorter ws →
    Each IsOther vs → map (way_of (n + size i)) (slots i n) ≡ ws ++ (Beyond 0 ∷ vs) → Opened n i ws vs
opened m n i ws vs s p q h =
    let e = n + size i in
    let f = found e (slots i n) ws (Beyond 0) vs h in
    let o = out_is e f.here f.way_here in
    let sp = each-split (IsSeen m false) f.earlier (f.here ∷ f.later) (subst (Each (IsSeen m false)) f.split s) in
    let shorter = each-unmap IsShorter (way_of e) f.earlier (subst (Each IsShorter) (sym f.ways_before) p) in
    let others = each-unmap IsOther (way_of e) f.later (subst (Each IsOther) (sym f.ways_after) q) in
    let first_ones = each-both (IsSeen m false) (λ x. IsShorter (way_of e x)) f.earlier sp.0 shorter in
    let last_ones = each-both (IsSeen m false) (λ x. IsOther (way_of e x)) f.later sp.1.1 others in
    record {
      earlier = f.earlier;
      by = o.0;
      later = f.later;
      split = f.split ∙ ap (λ y. f.earlier ++ (y ∷ f.later)) o.1;
      inner = each-more (λ x. IsSeen m false x × IsShorter (way_of e x)) IsInner f.earlier
          (λ x k. inner_is m e x k.0 (shorter_other (way_of e x) k.1)) first_ones;
      shorter = each-more (λ x. IsShorter (way_of e x)) (λ x. hits e x ≡ false) f.earlier (hits_not e) shorter;
      one = each-more (λ x. IsSeen m false x × IsOther (way_of e x)) IsInner f.later
          (λ x k. inner_is m e x k.0 k.1) last_ones;
      ways_before = sym (length-map f.earlier (way_of e)) ∙ ap length f.ways_before;
      ways_after = sym (length-map f.later (way_of e)) ∙ ap length f.ways_after;
    }

no_items : {A : Type 0} → (xs : List (Slot A)) → length xs ≡ 0 → xs ≡ []
no_items [] e = refl
no_items (x ∷ xs) e = absurd (omega (arith, e))

is_left :
    {A : Type 0} → (m n : ℕ) (b : Body A) → Each (IsSeen m false) (slots (tree b) n) →
    ways b ≡ map (way_of (n + size (tree b))) (slots (tree b) n) → IsBlock b → IsLeft n (tree b)
is_left m n b s w f =
    let o = opened m n (tree b) f.jump.earlier f.jump.later s f.jump.shorter f.jump.one (sym w ∙ f.jump.split) in
    record {
      earlier = o.earlier;
      by = o.by;
      later = o.later;
      split = o.split;
      one_before = o.inner;
      one_after = o.one;
      least = o.shorter;
      soon = let l = f.soon in omega (arith, l, o.ways_before, first-tree b);
    }

is_repeated :
    {A : Type 0} → (m n : ℕ) (b : Body A) → Each (IsSeen m false) (slots (tree b) n) →
    ways b ≡ map (way_of (n + size (tree b))) (slots (tree b) n) → IsCycle b → IsRepeated n (tree b)
is_repeated m n b s w f =
    let o = opened m n (tree b) f.jump.earlier f.jump.later s f.jump.shorter f.jump.one (sym w ∙ f.jump.split) in
    record {
      earlier = o.earlier;
      by = o.by;
      split = o.split ∙ ap (λ l. o.earlier ++ (Out (Some o.by) 0 ∷ l))
          (no_items o.later (o.ways_after ∙ ap length f.last));
      one = o.inner;
      inside = o.shorter;
    }

-- ---- the ways are those of the items

map_twice :
    {A : Type 0} → (f : Way → Way) (g h : Slot A → Way) (k : Slot A → Slot A) (xs : List (Slot A)) →
    Each (λ x. f (g x) ≡ h (k x)) xs → map f (map g xs) ≡ map h (map k xs)
map_twice f g h k [] e = refl
map_twice f g h k (x ∷ xs) e = ap (λ y. y ∷ map f (map g xs)) e.0 ∙ ap (λ l. h (k x) ∷ l) (map_twice f g h k xs e.1)

block_way :
    {A : Type 0} → (m s e : ℕ) → s ≤ e → (x : Slot A) → IsSeen m false x × Aims (λ u. u ≤ s) x →
    outward (s == e) (way_of s x) ≡ way_of e (close s x)
block_way m s e l h4 h = grind (arith, eq-eqb, ne_eqb, cases_eq)

if_false : (b : Bool) → b ≡ false → Inside ≡ if b then AtEnd else Inside
if_false b e = sym (ap (λ c. if c then AtEnd else Inside) e)

cycle_way :
    {A : Type 0} → (m n s e : ℕ) → n < s → s ≤ e → (x : Slot A) →
    IsSeen m false x × (Aims (λ u. u ≤ s) x × (hits s x ≡ false)) → outward false (way_of s x) ≡ way_of e (close n x)
cycle_way m n s e l k h6 h = grind (arith, if_false, ne_eqb, eq-eqb)

shut_way :
    {A : Type 0} → (s e : ℕ) → s < e → (x : Slot A) → IsSeen 0 false x × Aims (λ u. u ≤ s) x → Inside ≡ way_of e x
shut_way s e l h3 h = grind (arith, if_false, ne_eqb)

arms_way :
    {A : Type 0} → (s e t : ℕ) → s < e → (x : Slot A) → IsSeen 0 true x × Aims (λ u. u ≤ s) x →
    Inside ≡ way_of e (close t x)
arms_way s e t l h4 h = grind (arith, if_false, ne_eqb)

-- no item of a tree goes past its end
before_end : {A : Type 0} → (t : Tree A) (n : ℕ) → Each (Aims (λ u. u ≤ n + size t)) (slots t n)
before_end t n = grind (arith, each-more, size, slots, aims-more, within)

last_part : (r s e : ℕ) → s + r ≡ e → (r == 0) ≡ (s == e)
last_part r s e h = grind (arith, eq-eqb, ne_eqb, cases_eq)

joined_ways :
    {A : Type 0} → (e : ℕ) (xs ys zs : List (Slot A)) (ws vs : List Way) → ws ≡ map (way_of e) xs →
    vs ≡ map (way_of e) zs → map (way_of e) ys ≡ map (way_of e) xs → ws ++ vs ≡ map (way_of e) (ys ++ zs)
joined_ways e xs ys zs ws vs p q r = grind (arith, map-append)

inner_ends :
    {A : Type 0} → (m : ℕ) (c : Bool) (t : Tree A) (n : ℕ) → Each (IsSeen m c) (slots t n) →
    Each (λ x. IsSeen m c x × Aims (λ u. u ≤ n + size t) x) (slots t n)
inner_ends m c t n s = each-both (IsSeen m c) (Aims (λ u. u ≤ n + size t)) (slots t n) s (before_end t n)

-- a part that no jump leaves, with the item that ends it, and what follows
shut_ways :
    {A : Type 0} → (c : Bool) (t : Tree A) (n e : ℕ) (k : Slot A → Slot A) (y : Slot A) (zs : List (Slot A))
    (ws vs : List Way) → Each (IsSeen 0 c) (slots t n) → ws ≡ map (way_of (n + size t)) (slots t n) →
    ((x : Slot A) → IsSeen 0 c x × Aims (λ u. u ≤ n + size t) x → Inside ≡ way_of e (k x)) → way_of e y ≡ Inside →
    vs ≡ map (way_of e) zs → map shut ws ++ (Inside ∷ vs) ≡ map (way_of e) ((map k (slots t n) ++ (y ∷ [])) ++ zs)
shut_ways c t n e k y zs ws vs s p h yi q =
    let each = each-more _ (λ x. Inside ≡ way_of e (k x)) (slots t n) h (inner_ends 0 c t n s) in
    grind (arith, each, map_twice, map-append, append_assoc)

ways_are :
    {A : Type 0} → (m : ℕ) (d c : Bool) (b : Body A) (n e : ℕ) → IsTight m d c b → n + body_size b ≡ e →
    ways b ≡ map (way_of e) (slots (tree b) n)
ways_are m d c End n e w h = refl
ways_are m d c (Operation a r) n e w h = ap (λ l. Inside ∷ l) (ways_are m d c r (n + 1) e w (omega (arith, h)))
ways_are m d c (LeaveLoop r) n e w h = ap (λ l. Inside ∷ l) (ways_are m d c r (n + 1) e w.1 (omega (arith, h)))
ways_are m d c (Jump z k r) n e w h = ap (λ l. Beyond k ∷ l) (ways_are m d c r (n + 1) e w.1 (omega (arith, h)))
ways_are m d c (Block b r) n e w h =
    let s = n + size (tree b) in
    let st = size-tree b in
    let xs = slots (tree b) n in
    let inner = ways_are (suc m) d false b n s w.1 (omega (arith, st)) in
    let rest = ways_are m d c r s e w.2 (omega (arith, st, h)) in
    let ends = inner_ends (suc m) false (tree b) n (seen (suc m) d false b n w.1) in
    let each = each-more (λ x. IsSeen (suc m) false x × Aims (λ u. u ≤ s) x)
    (λ x. outward (s == e) (way_of s x) ≡ way_of e (close s x)) xs
    (block_way (suc m) s e (omega (arith, st, h))) ends in
    let left =
    ap (λ p. map (outward p) (ways b)) (last_part (body_size r) s e (omega (arith, st, h)))
    ∙ ap (map (outward (s == e))) inner
    ∙ map_twice (outward (s == e)) (way_of s) (way_of e) (close s) xs each in
    joined_ways e (map (close s) xs) (map (close s) xs ++ []) (slots (tree r) s)
    (map (outward (body_size r == 0)) (ways b)) (ways r) left rest
    (ap (map (way_of e)) (append-nil (map (close s) xs)))
ways_are m d c (Cycle b r) n e w h =
    let s = n + size (tree b) in
    let st = size-tree b in
    let xs = slots (tree b) n in
    let inner = ways_are (suc m) d false b n s w.1 (omega (arith, st)) in
    let rest = ways_are m d c r s e w.2 (omega (arith, st, h)) in
    let sn = seen (suc m) d false b n w.1 in
    let rep = is_repeated (suc m) n b sn inner w.0 in
    let wd = wide_left n (tree b) rep.earlier [] (Out (Some rep.by) 0) rep.split in
    let all = rep.earlier ++ (Out (Some rep.by) 0 ∷ []) in
    let miss = subst (Each (λ x. hits s x ≡ false)) {x = all} (sym {b = all} rep.split)
    (each-append (λ x. hits s x ≡ false) rep.earlier (Out (Some rep.by) 0 ∷ []) rep.inside (refl, tt)) in
    let ends = each-both (IsSeen (suc m) false) (λ x. Aims (λ u. u ≤ s) x × (hits s x ≡ false)) xs sn
    (each-both (Aims (λ u. u ≤ s)) (λ x. hits s x ≡ false) xs (before_end (tree b) n) miss) in
    let each = each-more (λ x. IsSeen (suc m) false x × (Aims (λ u. u ≤ s) x × (hits s x ≡ false)))
    (λ x. outward false (way_of s x) ≡ way_of e (close n x)) xs
    (cycle_way (suc m) n s e (omega (arith, wd)) (omega (arith, st, h))) ends in
    let left = ap (map (outward false)) inner ∙ map_twice (outward false) (way_of s) (way_of e) (close n) xs each in
    joined_ways e (map (close n) xs) (map (close n) xs ++ []) (slots (tree r) s) (map (outward false) (ways b))
    (ways r) left rest (ap (map (way_of e)) (append-nil (map (close n) xs)))
ways_are m d c (Counted q b l r) n e w h =
    let s = suc n + size (tree b) in
    let st = size-tree b in
    ap (λ k. Inside ∷ k) (shut_ways false (tree b) (suc n) e (λ x. x) (Again l) _ (ways b) (ways r)
    (seen 0 true false b (suc n) w.0) (ways_are 0 true false b (suc n) s w.0 (omega (arith, st)))
    (shut_way s e (omega (arith, st, h))) refl (ways_are m d c r _ e w.1 (omega (arith, st, h))))
ways_are m d c (Choice b r) n e w h =
    let s = n + size (tree b) in
    let t = n + suc (size (tree b)) in
    let st = size-tree b in
    shut_ways true (tree b) n e (close t) Drops (slots (tree r) t) (ways b) (ways r) (seen 0 d true b n w.1)
    (ways_are 0 d true b n s w.1 (omega (arith, st))) (arms_way s e t (omega (arith, st, h))) refl
    (ways_are m d c r t e w.2 (omega (arith, st, h)))
ways_are m d c (Arm b r) n e w h =
    let s = suc n + size (tree b) in
    let st = size-tree b in
    ap (λ k. Inside ∷ k) (shut_ways false (tree b) (suc n) e (λ x. x) (Out None 0) _ (ways b) (ways r)
    (seen 0 d false b (suc n) w.1) (ways_are 0 d false b (suc n) s w.1 (omega (arith, st)))
    (shut_way s e (omega (arith, st, h))) refl (ways_are m d c r _ e w.2 (omega (arith, st, h))))

-- ---- tight

begins : {A : Type 0} → (b : Body A) → BeginsWithArm b → Unique.BeginsWithArm (tree b)
begins b h = grind (arith)

tight : {A : Type 0} → (m : ℕ) (d c : Bool) (b : Body A) (n : ℕ) → IsTight m d c b → Tight n (tree b)
tight m d c End n w = tt
tight m d c (Operation a r) n w = (tt, tt, tight m d c r (n + 1) w)
tight m d c (LeaveLoop r) n w = (tt, tt, tight m d c r (n + 1) w.1)
tight m d c (Jump z k r) n w = (tt, tt, tight m d c r (n + 1) w.1)
tight m d c (Block b r) n w =
    let s = n + size (tree b) in
    let st = size-tree b in
    let sn = seen (suc m) d false b n w.1 in (
      is_left (suc m) n b sn (ways_are (suc m) d false b n s w.1 (omega (arith, st))) w.0,
      tight (suc m) d false b n w.1,
      tight m d c r s w.2,
    )
tight m d c (Cycle b r) n w =
    let s = n + size (tree b) in
    let st = size-tree b in
    let sn = seen (suc m) d false b n w.1 in (
      is_repeated (suc m) n b sn (ways_are (suc m) d false b n s w.1 (omega (arith, st))) w.0,
      tight
          (suc m) d false b n w.1,
      tight m d c r s w.2,
    )
tight m d c (Counted q b l r) n w =
    (tt, tight 0 true false b (suc n) w.0, tight m d c r (n + suc (suc (size (tree b)))) w.1)
tight m d c (Choice b r) n w =
    grind (arith, tight 0 d true b n w.1, tight m d c r (n + suc (size (tree b))) w.2, each-more, seen, begins)
tight m d c (Arm b r) n w = (tt, tight 0 d false b (suc n) w.1, tight m d c r (n + suc (suc (size (tree b)))) w.2)

-- ---- the items of a body are those of its tree

abbrev slot_of : {A : Type 0} → Item A → Slot A
slot_of (Perform a) = Does a
slot_of (JumpTo z t) = To (Some z) t
slot_of (EnterLoop q t) = Enters q t
slot_of (RepeatLoop l t) = Again l
slot_of (ExitLoop t) = Leaves
slot_of (TestArm t) = Tests t
slot_of (EndArm t) = To None t
slot_of DropSelector = Drops

-- an item seen from outside of all parts round the body
abbrev placed : {A : Type 0} → List ℕ → ℕ → Slot A → Slot A
placed ls ps (Out (Some z) k) = To (Some z) (slice_index ls k)
placed ls ps (Out None k) = To None ps
placed ls ps (Does a) = Does a
placed ls ps Leaves = Leaves
placed ls ps (To j u) = To j u
placed ls ps (Enters q u) = Enters q u
placed ls ps (Again l) = Again l
placed ls ps (Tests u) = Tests u
placed ls ps Drops = Drops

placed-arms :
    {A : Type 0} → (ls : List ℕ) (ps t s : ℕ) → t ≡ s → (x : Slot A) → IsSeen 0 true x →
    placed [] t x ≡ placed ls ps (close s x)
placed-arms ls ps t s e h5 h = grind (arith)

placed-shut :
    {A : Type 0} → (ls ks : List ℕ) (ps qs : ℕ) (x : Slot A) → IsSeen 0 false x → placed ks qs x ≡ placed ls ps x
placed-shut ls ks ps qs x h = grind (arith)

map_once :
    {A : Type 0} → (f g k : Slot A → Slot A) (xs : List (Slot A)) → Each (λ x. f x ≡ g (k x)) xs →
    map f xs ≡ map g (map k xs)
map_once f g k [] h = refl
map_once f g k (x ∷ xs) h = ap (λ y. y ∷ map f xs) h.0 ∙ ap (λ l. g (k x) ∷ l) (map_once f g k xs h.1)

joined_items :
    {A : Type 0} → (g : Slot A → Slot A) (us vs : List (Item A)) (ys zs : List (Slot A)) → map slot_of us ≡ map g ys →
    map slot_of vs ≡ map g zs → map slot_of (us ++ vs) ≡ map g (ys ++ zs)
joined_items g us vs ys zs p q = grind (arith, map-append)

-- the items of a part that no jump leaves, with the item that ends it, and what follows
shut_items :
    {A : Type 0} → (f g k : Slot A → Slot A) (P : Slot A → Type 0) (us vs : List (Item A)) (i : Item A)
    (xs zs : List (Slot A)) (y : Slot A) → Each P xs → ((x : Slot A) → P x → f x ≡ g (k x)) →
    map slot_of us ≡ map f xs → slot_of i ≡ g y → map slot_of vs ≡ map g zs →
    map slot_of (us ++ (i ∷ vs)) ≡ map g ((map k xs ++ (y ∷ [])) ++ zs)
shut_items f g k P us vs i xs zs y s h p e q =
    let each = map_once f g k xs (each-more P (λ x. f x ≡ g (k x)) xs h s) in
    grind (arith, each, map-append, append_assoc)

-- the items of a part that ends without an item
ruleset open_items = (size-tree, each-more, seen, map_once, append-nil, joined_items)

items_are :
    {A : Type 0} → (m : ℕ) (d c : Bool) (b : Body A) (n : ℕ) (ls : List ℕ) (lv ps : ℕ) → IsTight m d c b →
    map slot_of (items_at b n ls lv ps) ≡ map (placed ls ps) (slots (tree b) n)
items_are m d c End n ls lv ps w = refl
items_are m d c (Operation a r) n ls lv ps w = grind (arith, items_are m d c r (suc n) ls lv ps w, slots, tree)
items_are m d c (LeaveLoop r) n ls lv ps w = grind (arith, items_are m d c r (suc n) ls lv ps w.1, slots, tree)
items_are m d c (Jump z k r) n ls lv ps w = grind (arith, items_are m d c r (suc n) ls lv ps w.1, slots, tree)
items_are m d c (Block b r) n ls lv ps w =
    let inner = items_are (suc m) d false b n ((n + body_size b) ∷ ls) lv ps w.1 in
    grind (arith, inner, items_are m d c r (n + body_size b) ls lv ps w.2, open_items)
items_are m d c (Cycle b r) n ls lv ps w =
    let inner = items_are (suc m) d false b n (n ∷ ls) lv ps w.1 in
    grind (arith, inner, items_are m d c r (n + body_size b) ls lv ps w.2, open_items)
items_are m d c (Counted q b l r) n ls lv ps w =
    let t = suc (suc n + body_size b) in
    let st = size-tree b in
    let eq : t ≡ n + suc (suc (size (tree b))) = omega (arith, st) in
    let rest = items_are m d c r t ls lv ps w.1 ∙ ap (λ k. map (placed ls ps) (slots (tree r) k)) eq in
    let all = shut_items (placed [] ps) (placed ls ps) (λ x. x) (IsSeen 0 false) (items_at b (suc n) [] t ps) _
    (RepeatLoop l (suc n)) _ _ (Again l) (seen 0 true false b (suc n) w.0) (placed-shut ls [] ps ps)
    (items_are 0 true false b (suc n) [] t ps w.0) refl rest in
    ap (λ u. Enters q u ∷ map slot_of (items_at b (suc n) [] t ps ++ (RepeatLoop l (suc n) ∷ items_at r t ls lv ps))) eq
    ∙ ap (λ k. Enters q (n + suc (suc (size (tree b)))) ∷ k) all
items_are m d c (Choice b r) n ls lv ps w =
    let t = suc (n + body_size b) in
    let st = size-tree b in
    let eq : t ≡ n + suc (size (tree b)) = omega (arith, st) in
    let rest = items_are m d c r t ls lv ps w.2 ∙ ap (λ k. map (placed ls ps) (slots (tree r) k)) eq in
    shut_items (placed [] t) (placed ls ps) (close _) (IsSeen 0 true) (items_at b n [] lv t) _ DropSelector _ _ Drops
    (seen 0 d true b n w.1) (placed-arms ls ps t _ eq) (items_are 0 d true b n [] lv t w.1) refl rest
items_are m d c (Arm b r) n ls lv ps w =
    let t = suc (suc n + body_size b) in
    let st = size-tree b in
    let eq : t ≡ n + suc (suc (size (tree b))) = omega (arith, st) in
    let rest = items_are m d c r t ls lv ps w.2 ∙ ap (λ k. map (placed ls ps) (slots (tree r) k)) eq in
    let all = shut_items (placed [] ps) (placed ls ps) (λ x. x) (IsSeen 0 false) (items_at b (suc n) [] lv ps) _
    (EndArm ps) _ _ (Out None 0) (seen 0 d false b (suc n) w.1) (placed-shut ls [] ps ps)
    (items_are 0 d false b (suc n) [] lv ps w.1) refl rest in
    ap (λ u. Tests u ∷ map slot_of (items_at b (suc n) [] lv ps ++ (EndArm ps ∷ items_at r t ls lv ps))) eq
    ∙ ap (λ k. Tests (n + suc (suc (size (tree b)))) ∷ k) all

all_same : {A : Type 0} → (f : Slot A → Slot A) (xs : List (Slot A)) → Each (λ x. f x ≡ x) xs → map f xs ≡ xs
all_same f [] h = refl
all_same f (x ∷ xs) h = ap (λ y. y ∷ map f xs) h.0 ∙ ap (λ l. x ∷ l) (all_same f xs h.1)

whole : {A : Type 0} → (b : Body A) → IsTight 0 false false b → map slot_of (items_of b) ≡ slots (tree b) 0
whole b w = grind (arith, items_are, all_same, slots, tree, each-more, seen)

-- tight bodies with the same items are the same
pub one_body :
    {A : Type 0} → (b c : Body A) → IsTight 0 false false b → IsTight 0 false false c → items_of b ≡ items_of c → b ≡ c
one_body b c w v e =
    let slots_same = sym (whole b w) ∙ ap (map slot_of) e ∙ whole c v in
    sym (back b) ∙ ap body (same (tree b) (tree c) 0 (tight 0 false false b 0 w) (tight 0 false false c 0 v) slots_same)
    ∙ back c

-- a definition has one reading at most
pub one_reading :
    {A : Type 0} → (es : List (Element A)) (m : Partners) (b c : Body A) → IsReading es m b → IsReading es m c → b ≡ c
one_reading es m b c w v = one_body b c w.tight v.tight (w.listed ∙ sym v.listed)
