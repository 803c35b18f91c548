-- A tight body with names is tight without them.
use Rattle.std.proofs.Common.{◌≡◌, ℕ, suc, ◌<◌, Bool, true, false, List, [], ◌∷◌, ◌++◌, length, refl, ap, ◌∙◌, arith}
use Rattle.std.proofs.Common.{◌+◌, ◌≤◌, sym, subst}
use Rattle.std.specs.Prelude.{◌==◌, if◌then◌else◌, map, ◌&&◌}
use Rattle.std.proofs.lemmas.Bool.{ne_eqb, eq-eqb, cases_eq, eqb-true}
use Rattle.std.proofs.lemmas.List.{map-append, length-map, append_assoc}
use Rattle.of_control.specs.Body.{IsScoped}
use Rattle.of_control.specs.Reading.{NamedArm, NamedBlock, NamedBody, NamedChoice, NamedCounted, NamedCycle, NamedEnd}
use Rattle.of_control.specs.Reading.{NamedJump, NamedLeave, NamedOperation, label_index, nameless, joined}
use Rattle.of_control.specs.Tight.{AtEnd, BeginsWithArm, Beyond, Each, HasOneJump, Inside, IsBlock, IsCycle, IsOther}
use Rattle.of_control.specs.Tight.{IsShorter, IsTight, Way, first_size, ways}
use Rattle.of_control.proofs.NamedBodies.{body_size-nameless, named_size}
use Rattle.of_control.proofs.Pieces.{named_size-joined}

-- where an item goes, by the name of the part: not out of the body, to its end by leaving this Block, or to this part
-- round it
pub data NamedWay : Type 0 where
  Stays : NamedWay
  Ends : ℕ → NamedWay
  Goes : ℕ → NamedWay

-- seen from outside of the part b
abbrev pub left : ℕ → Bool → NamedWay → NamedWay
left b last Stays = Stays
left b last (Ends x) = if last then Ends x else Stays
left b last (Goes x) = if x == b then (if last then Ends b else Stays) else Goes x

abbrev pub kept_in : NamedWay → NamedWay
kept_in w = Stays

abbrev pub named_ways : {A : Type 0} → NamedBody A → List NamedWay
named_ways NamedEnd = []
named_ways (NamedOperation a r) = Stays ∷ named_ways r
named_ways (NamedLeave d r) = Stays ∷ named_ways r
named_ways (NamedJump z b r) = Goes b ∷ named_ways r
named_ways (NamedBlock b p r) = map (left b (named_size r == 0)) (named_ways p) ++ named_ways r
named_ways (NamedCycle c p r) = map (left c false) (named_ways p) ++ named_ways r
named_ways (NamedCounted q d p l r) = Stays ∷ (map kept_in (named_ways p) ++ (Stays ∷ named_ways r))
named_ways (NamedChoice c p r) = map kept_in (named_ways p) ++ (Stays ∷ named_ways r)
named_ways (NamedArm o c p r) = Stays ∷ (map kept_in (named_ways p) ++ (Stays ∷ named_ways r))

abbrev pub named_first : {A : Type 0} → NamedBody A → ℕ
named_first NamedEnd = 0
named_first (NamedBlock b p r) = named_size p
named_first (NamedCycle c p r) = named_size p
named_first (NamedCounted q d p l r) = suc (suc (named_size p))
named_first (NamedChoice c p r) = suc (named_size p)
named_first (NamedArm o c p r) = suc (suc (named_size p))
named_first _ = 1

abbrev pub NotTo : ℕ → NamedWay → Type 0
NotTo b (Goes x) = x ≡ b → ⊥
NotTo b _ = Unit {0}

abbrev pub Shorter : ℕ → NamedWay → Type 0
Shorter b Stays = Unit {0}
Shorter b (Ends x) = ⊥
Shorter b (Goes x) = x ≡ b → ⊥

pub record NamedJumpOnce {A : Type 0} (b : ℕ) (p : NamedBody A) : Type 0 where
  pub earlier : List NamedWay
  pub later : List NamedWay
  pub split : named_ways p ≡ earlier ++ (Goes b ∷ later)
  pub shorter : Each (Shorter b) earlier
  pub one : Each (NotTo b) later

pub record NamedIsBlock {A : Type 0} (b : ℕ) (p : NamedBody A) : Type 0 where
  pub jump : NamedJumpOnce b p
  pub soon : length jump.earlier < named_first p

pub record NamedIsCycle {A : Type 0} (c : ℕ) (p : NamedBody A) : Type 0 where
  pub jump : NamedJumpOnce c p
  pub last : jump.later ≡ []

abbrev pub NamedBegins : {A : Type 0} → NamedBody A → Type 0
NamedBegins NamedEnd = Unit {0}
NamedBegins (NamedArm o c p r) = Unit {0}
NamedBegins _ = ⊥

abbrev pub NamedTight : {A : Type 0} → NamedBody A → Type 0
NamedTight NamedEnd = Unit {0}
NamedTight (NamedOperation a r) = NamedTight r
NamedTight (NamedLeave d r) = NamedTight r
NamedTight (NamedJump z b r) = NamedTight r
NamedTight (NamedBlock b p r) = NamedIsBlock b p × NamedTight p × NamedTight r
NamedTight (NamedCycle c p r) = NamedIsCycle c p × NamedTight p × NamedTight r
NamedTight (NamedCounted q d p l r) = NamedTight p × NamedTight r
NamedTight (NamedChoice c p r) = NamedBegins p × NamedTight p × NamedTight r
NamedTight (NamedArm o c p r) = NamedTight p × NamedTight r

-- ---- without names

first-nameless : {A : Type 0} → (ls : List ℕ) (p : NamedBody A) → first_size (nameless ls p) ≡ named_first p
first-nameless ls p = grind (arith, body_size-nameless)

abbrev way_in : List ℕ → NamedWay → Way
way_in ls Stays = Inside
way_in ls (Ends x) = AtEnd
way_in ls (Goes x) = Beyond (label_index x ls)

map_out :
    (f : Way → Way) (g h : NamedWay → Way) (k : NamedWay → NamedWay) → ((w : NamedWay) → f (g w) ≡ h (k w)) →
    (ws : List NamedWay) → map f (map g ws) ≡ map h (map k ws)
map_out f g h k e [] = refl
map_out f g h k e (w ∷ ws) = ap (λ y. y ∷ map f (map g ws)) (e w) ∙ ap (λ l. h (k w) ∷ l) (map_out f g h k e ws)

pub ways-nameless :
    {A : Type 0} → (ls : List ℕ) (p : NamedBody A) → ways (nameless ls p) ≡ map (way_in ls) (named_ways p)
ways-nameless ls NamedEnd = refl
ways-nameless ls (NamedOperation a r) = ap (λ l. Inside ∷ l) (ways-nameless ls r)
ways-nameless ls (NamedLeave d r) = ap (λ l. Inside ∷ l) (ways-nameless ls r)
ways-nameless ls (NamedJump z b r) = ap (λ l. Beyond (label_index b ls) ∷ l) (ways-nameless ls r)
ways-nameless ls (NamedBlock b p r) =
    grind (arith, ways-nameless (b ∷ ls) p, ways-nameless ls r, body_size-nameless, named_size, map_out, map-append)
ways-nameless ls (NamedCycle c p r) = grind (arith, ways-nameless (c ∷ ls) p, ways-nameless ls r, map_out, map-append)
ways-nameless ls (NamedCounted q d p l r) = grind (arith, ways-nameless [] p, ways-nameless ls r, map_out, map-append)
ways-nameless ls (NamedChoice c p r) = grind (arith, ways-nameless [] p, ways-nameless ls r, map_out, map-append)
ways-nameless ls (NamedArm o c p r) = grind (arith, ways-nameless [] p, ways-nameless ls r, map_out, map-append)

each_to :
    (P : NamedWay → Type 0) (Q : Way → Type 0) (f : NamedWay → Way) (ws : List NamedWay) →
    ((w : NamedWay) → P w → Q (f w)) → Each P ws → Each Q (map f ws)
each_to P Q f [] g h = tt
each_to P Q f (w ∷ ws) g h = (g w h.0, each_to P Q f ws g h.1)

shorter_in : (b : ℕ) (ls : List ℕ) (w : NamedWay) → Shorter b w → IsShorter (way_in (b ∷ ls) w)
shorter_in b ls w h = grind (arith, ne_eqb)

other_in : (b : ℕ) (ls : List ℕ) (w : NamedWay) → NotTo b w → IsOther (way_in (b ∷ ls) w)
other_in b ls w h = grind (arith, ne_eqb)

abbrev jump_in :
    {A : Type 0} → (b : ℕ) (ls : List ℕ) (p : NamedBody A) → NamedJumpOnce b p → HasOneJump (nameless (b ∷ ls) p)
jump_in b ls p j =
    let f = way_in (b ∷ ls) in
    let here : f (Goes b) ≡ Beyond 0 = ap (λ t. Beyond (if t then 0 else suc (label_index b ls))) (eq-eqb b b refl) in
    record {
      earlier = map f j.earlier;
      later = map f j.later;
      split = ways-nameless (b ∷ ls) p ∙ ap (map f) j.split ∙ map-append f j.earlier (Goes b ∷ j.later)
          ∙ ap (λ w. map f j.earlier ++ (w ∷ map f j.later)) here;
      shorter = each_to (Shorter b) IsShorter f j.earlier (shorter_in b ls) j.shorter;
      one = each_to (NotTo b) IsOther f j.later (other_in b ls) j.one;
    }

block_in : {A : Type 0} → (b : ℕ) (ls : List ℕ) (p : NamedBody A) → NamedIsBlock b p → IsBlock (nameless (b ∷ ls) p)
block_in b ls p h =
    let s = h.soon in
    let l = length-map h.jump.earlier (way_in (b ∷ ls)) in
    record { jump = jump_in b ls p h.jump; soon = omega (arith, s, l, first-nameless (b ∷ ls) p) }

cycle_in : {A : Type 0} → (c : ℕ) (ls : List ℕ) (p : NamedBody A) → NamedIsCycle c p → IsCycle (nameless (c ∷ ls) p)
cycle_in c ls p h = record { jump = jump_in c ls p h.jump; last = ap (map (way_in (c ∷ ls))) h.last }

begins_in : {A : Type 0} → (p : NamedBody A) → NamedBegins p → BeginsWithArm (nameless [] p)
begins_in p h = grind (arith)

pub tight-nameless :
    {A : Type 0} → (n : ℕ) (d c : Bool) (ls : List ℕ) (p : NamedBody A) → NamedTight p →
    IsScoped n d c (nameless ls p) → IsTight n d c (nameless ls p)
tight-nameless n d c ls NamedEnd t s = tt
tight-nameless n d c ls (NamedOperation a r) t s = tight-nameless n d c ls r t s
tight-nameless n d c ls (NamedLeave x r) t s = (s.0, tight-nameless n d c ls r t s.1)
tight-nameless n d c ls (NamedJump z b r) t s = (s.0, tight-nameless n d c ls r t s.1)
tight-nameless n d c ls (NamedBlock b p r) t s =
    (block_in b ls p t.0, tight-nameless (suc n) d false (b ∷ ls) p t.1 s.0, tight-nameless n d c ls r t.2 s.1)
tight-nameless n d c ls (NamedCycle x p r) t s =
    (cycle_in x ls p t.0, tight-nameless (suc n) d false (x ∷ ls) p t.1 s.0, tight-nameless n d c ls r t.2 s.1)
tight-nameless n d c ls (NamedCounted q x p l r) t s =
    (tight-nameless 0 true false [] p t.0 s.0, tight-nameless n d c ls r t.1 s.1)
tight-nameless n d c ls (NamedChoice x p r) t s =
    (begins_in p t.0, tight-nameless 0 d true [] p t.1 s.0, tight-nameless n d c ls r t.2 s.1)
tight-nameless n d c ls (NamedArm o x p r) t s =
    (s.0, tight-nameless 0 d false [] p t.0 s.1, tight-nameless n d c ls r t.1 s.2)

-- ---- where the numbers of the jumps rise with the items, a Block that holds its jump in its first part is tight

-- the names from low on rise, and are below high
abbrev pub Rise : ℕ → List NamedWay → ℕ → Type 0
Rise low [] high = low ≤ high
Rise low (Stays ∷ ws) high = Rise low ws high
Rise low (Ends x ∷ ws) high = (low ≤ x) × Rise (suc x) ws high
Rise low (Goes x ∷ ws) high = (low ≤ x) × Rise (suc x) ws high

pub rise-more : (a b high : ℕ) (ws : List NamedWay) → b ≤ a → Rise a ws high → Rise b ws high
rise-more a b high [] l h = omega (arith, l, h)
rise-more a b high (Stays ∷ ws) l h = rise-more a b high ws l h
rise-more a b high _ l h = let g = h.0 in (omega (arith, l, g), h.1)

pub rise-append :
    (low mid high : ℕ) (xs ys : List NamedWay) → Rise low xs mid → Rise mid ys high → Rise low (xs ++ ys) high
rise-append low mid high [] ys h k = rise-more mid low high ys h k
rise-append low mid high (Stays ∷ xs) ys h k = rise-append low mid high xs ys h k
rise-append low mid high (Ends x ∷ xs) ys h k = (h.0, rise-append (suc x) mid high xs ys h.1 k)
rise-append low mid high (Goes x ∷ xs) ys h k = (h.0, rise-append (suc x) mid high xs ys h.1 k)

-- seen from outside of a part they still do
pub rise-left :
    (low b high : ℕ) (last : Bool) (ws : List NamedWay) → Rise low ws high → Rise low (map (left b last) ws) high
rise-left low b high last [] h = h
rise-left low b high last (Stays ∷ ws) h = rise-left low b high last ws h
rise-left low b high last (Ends x ∷ ws) h = grind (arith, rise-left (suc x) b high last ws h.1, left, rise-more)
rise-left low b high last (Goes x ∷ ws) h =
    grind (arith, rise-left (suc x) b high last ws h.1, left, eqb-true, rise-more)

pub rise-kept : (low high : ℕ) (ws : List NamedWay) → Rise low ws high → Rise low (map kept_in ws) high
rise-kept low high [] h = h
rise-kept low high (Stays ∷ ws) h = rise-kept low high ws h
rise-kept low high (Ends x ∷ ws) h =
    let g = h.0 in rise-kept low high ws (rise-more (suc x) low high ws (omega (arith, g)) h.1)
rise-kept low high (Goes x ∷ ws) h =
    let g = h.0 in rise-kept low high ws (rise-more (suc x) low high ws (omega (arith, g)) h.1)

-- the Blocks that end with the body have no earlier jumps than b
abbrev pub EndsAbove : ℕ → NamedWay → Type 0
EndsAbove b (Ends x) = b ≤ x
EndsAbove b _ = Unit {0}

-- b's jump is in the first part
pub record HeldIn {A : Type 0} (b : ℕ) (p : NamedBody A) : Type 0 where
  pub earlier : List NamedWay
  pub later : List NamedWay
  pub split : named_ways p ≡ earlier ++ (Goes b ∷ later)
  pub soon : length earlier < named_first p

pub reaches : (low b high : ℕ) (xs ys : List NamedWay) → Rise low (xs ++ (Goes b ∷ ys)) high → low ≤ b
reaches low b high [] ys h = h.0
reaches low b high (Stays ∷ xs) ys h = reaches low b high xs ys h
reaches low b high (Ends x ∷ xs) ys h = let g = h.0 in let r = reaches (suc x) b high xs ys h.1 in omega (arith, g, r)
reaches low b high (Goes x ∷ xs) ys h = let g = h.0 in let r = reaches (suc x) b high xs ys h.1 in omega (arith, g, r)

shorter_by :
    (low b high : ℕ) (xs ys : List NamedWay) → Rise low (xs ++ (Goes b ∷ ys)) high →
    Each (EndsAbove b) (xs ++ (Goes b ∷ ys)) → Each (Shorter b) xs
shorter_by low b high [] ys h k = tt
shorter_by low b high (Stays ∷ xs) ys h k = (tt, shorter_by low b high xs ys h k.1)
shorter_by low b high (Ends x ∷ xs) ys h k = grind (arith, reaches)
shorter_by low b high (Goes x ∷ xs) ys h k = grind (arith, shorter_by (suc x) b high xs ys h.1 k.1, reaches)

others_by : (low b high : ℕ) (ys : List NamedWay) → b < low → Rise low ys high → Each (NotTo b) ys
others_by low b high [] l h = tt
others_by low b high (Stays ∷ ys) l h = (tt, others_by low b high ys l h)
others_by low b high (Ends x ∷ ys) l h = let g = h.0 in (tt, others_by (suc x) b high ys (omega (arith, l, g)) h.1)
others_by low b high (Goes x ∷ ys) l h =
    let g = h.0 in (λ e. absurd (omega (arith, e, l, g)), others_by (suc x) b high ys (omega (arith, l, g)) h.1)

rise-tail : (low b high : ℕ) (xs ys : List NamedWay) → Rise low (xs ++ (Goes b ∷ ys)) high → Rise (suc b) ys high
rise-tail low b high [] ys h = h.1
rise-tail low b high (Stays ∷ xs) ys h = rise-tail low b high xs ys h
rise-tail low b high (Ends x ∷ xs) ys h = rise-tail (suc x) b high xs ys h.1
rise-tail low b high (Goes x ∷ xs) ys h = rise-tail (suc x) b high xs ys h.1

-- what closing a branch needs of what was gathered
pub block_by :
    {A : Type 0} → (low high b : ℕ) (p : NamedBody A) → HeldIn b p → Rise low (named_ways p) high →
    Each (EndsAbove b) (named_ways p) → NamedIsBlock b p
block_by low high b p f r k =
    let rs = subst (λ l. Rise low l high) f.split r in
    let ks = subst (Each (EndsAbove b)) f.split k in
    record {
      jump = record {
        earlier = f.earlier;
        later = f.later;
        split = f.split;
        shorter = shorter_by low b high f.earlier f.later rs ks;
        one = others_by (suc b) b high f.later (omega arith) (rise-tail low b high f.earlier f.later rs);
      };
      soon = f.soon;
    }

-- ---- one body after another

-- what goes to the end of a body that others follow stays inside
abbrev pub settled : Bool → NamedWay → NamedWay
settled last Stays = Stays
settled last (Ends x) = if last then Ends x else Stays
settled last (Goes x) = Goes x

both_last : (n m : ℕ) → (n + m == 0) ≡ ((n == 0) && (m == 0))
both_last n m = grind (arith, eq-eqb, ne_eqb, cases_eq)

left_settled : (b : ℕ) (l k : Bool) (w : NamedWay) → left b (l && k) w ≡ settled k (left b l w)
left_settled b l k w = grind arith

map_settled :
    (f g : NamedWay → NamedWay) (k : Bool) → ((w : NamedWay) → f w ≡ settled k (g w)) → (ws : List NamedWay) →
    map f ws ≡ map (settled k) (map g ws)
map_settled f g k e [] = refl
map_settled f g k e (w ∷ ws) = ap (λ y. y ∷ map f ws) (e w) ∙ ap (λ l. settled k (g w) ∷ l) (map_settled f g k e ws)

joined_part :
    (f g : NamedWay → NamedWay) (k : Bool) (ws us vs zs : List NamedWay) → ((w : NamedWay) → f w ≡ settled k (g w)) →
    us ≡ map (settled k) vs ++ zs → map f ws ++ us ≡ map (settled k) (map g ws ++ vs) ++ zs
joined_part f g k ws us vs zs e p =
    ap (λ l. l ++ us) (map_settled f g k e ws)
    ∙ ap (λ l. map (settled k) (map g ws) ++ l) p
    ∙ sym (append_assoc (map (settled k) (map g ws)) (map (settled k) vs) zs)
    ∙ sym (ap (λ l. l ++ zs) (map-append (settled k) (map g ws) vs))

pub ways-joined :
    {A : Type 0} → (p s : NamedBody A) →
    named_ways (joined p s) ≡ map (settled (named_size s == 0)) (named_ways p) ++ named_ways s
ways-joined NamedEnd s = refl
ways-joined (NamedOperation a r) s = ap (λ l. Stays ∷ l) (ways-joined r s)
ways-joined (NamedLeave d r) s = ap (λ l. Stays ∷ l) (ways-joined r s)
ways-joined (NamedJump z b r) s = ap (λ l. Goes b ∷ l) (ways-joined r s)
ways-joined (NamedBlock b p r) s =
    let k = named_size s == 0 in
    let l = named_size r == 0 in
    ap (λ t. map (left b t) (named_ways p) ++ named_ways (joined r s))
    (ap (λ n. n == 0) (named_size-joined r s) ∙ both_last (named_size r) (named_size s))
    ∙ joined_part (left b (l && k)) (left b l) k (named_ways p) (named_ways (joined r s)) (named_ways r) (named_ways s)
    (left_settled b l k) (ways-joined r s)
ways-joined (NamedCycle c p r) s =
    let k = named_size s == 0 in
    joined_part (left c false) (left c false) k (named_ways p) (named_ways (joined r s)) (named_ways r) (named_ways s)
    (left_settled c false k) (ways-joined r s)
ways-joined (NamedCounted q d p m r) s =
    let k = named_size s == 0 in
    ap (λ l. Stays ∷ l) (joined_part kept_in kept_in k (named_ways p) (Stays ∷ named_ways (joined r s))
    (Stays ∷ named_ways r) (named_ways s) (λ w. refl) (ap (λ l. Stays ∷ l) (ways-joined r s)))
ways-joined (NamedChoice c p r) s =
    let k = named_size s == 0 in
    joined_part kept_in kept_in k (named_ways p) (Stays ∷ named_ways (joined r s)) (Stays ∷ named_ways r) (named_ways s)
    (λ w. refl) (ap (λ l. Stays ∷ l) (ways-joined r s))
ways-joined (NamedArm o c p r) s =
    let k = named_size s == 0 in
    ap (λ l. Stays ∷ l) (joined_part kept_in kept_in k (named_ways p) (Stays ∷ named_ways (joined r s))
    (Stays ∷ named_ways r) (named_ways s) (λ w. refl) (ap (λ l. Stays ∷ l) (ways-joined r s)))

pub rise-settled :
    (low high : ℕ) (k : Bool) (ws : List NamedWay) → Rise low ws high → Rise low (map (settled k) ws) high
rise-settled low high k [] h = h
rise-settled low high k (Stays ∷ ws) h = rise-settled low high k ws h
rise-settled low high k (Ends x ∷ ws) h = grind (arith, rise-settled (suc x) high k ws h.1, rise-more)
rise-settled low high k (Goes x ∷ ws) h = (h.0, rise-settled (suc x) high k ws h.1)

pub rise-joined :
    {A : Type 0} → (low mid high : ℕ) (p s : NamedBody A) → Rise low (named_ways p) mid → Rise mid (named_ways s) high →
    Rise low (named_ways (joined p s)) high
rise-joined low mid high p s h k =
    let last = named_size s == 0 in
    subst (λ l. Rise low l high) (sym (ways-joined p s))
    (rise-append low mid high (map (settled last) (named_ways p)) (named_ways s)
    (rise-settled low mid last (named_ways p) h) k)

pub tight-joined : {A : Type 0} → (p s : NamedBody A) → NamedTight p → NamedTight s → NamedTight (joined p s)
tight-joined NamedEnd s h k = k
tight-joined (NamedOperation a r) s h k = tight-joined r s h k
tight-joined (NamedLeave d r) s h k = tight-joined r s h k
tight-joined (NamedJump z b r) s h k = tight-joined r s h k
tight-joined (NamedBlock b p r) s h k = (h.0, h.1, tight-joined r s h.2 k)
tight-joined (NamedCycle c p r) s h k = (h.0, h.1, tight-joined r s h.2 k)
tight-joined (NamedCounted q d p l r) s h k = (h.0, tight-joined r s h.1 k)
tight-joined (NamedChoice c p r) s h k = (h.0, h.1, tight-joined r s h.2 k)
tight-joined (NamedArm o c p r) s h k = (h.0, tight-joined r s h.1 k)

first-joined : {A : Type 0} → (p s : NamedBody A) → 0 < named_first p → named_first (joined p s) ≡ named_first p
first-joined p s h = grind (arith)

pub held-joined : {A : Type 0} → (b : ℕ) (p s : NamedBody A) → HeldIn b p → HeldIn b (joined p s)
held-joined b p s f =
    let k = settled (named_size s == 0) in
    let soon = f.soon in
    let firsts = first-joined p s (omega (arith, soon)) in
    let len = length-map f.earlier k in
    record {
      earlier = map k f.earlier;
      later = map k f.later ++ named_ways s;
      split =
          ways-joined p s
          ∙ ap (λ l. map k l ++ named_ways s) f.split
          ∙ ap (λ l. l ++ named_ways s) (map-append k f.earlier (Goes b ∷ f.later))
          ∙ append_assoc (map k f.earlier) (Goes b ∷ map k f.later) (named_ways s);
      soon = omega (arith, soon, firsts, len);
    }

shorter_than :
    (low c high : ℕ) (ws : List NamedWay) → c < low → Rise low ws high → Each (Shorter c) (map (settled false) ws)
shorter_than low c high [] l h = tt
shorter_than low c high (Stays ∷ ws) l h = (tt, shorter_than low c high ws l h)
shorter_than low c high (Ends x ∷ ws) l h =
    let g = h.0 in (tt, shorter_than (suc x) c high ws (omega (arith, l, g)) h.1)
shorter_than low c high (Goes x ∷ ws) l h =
    let g = h.0 in (λ e. absurd (omega (arith, e, l, g)), shorter_than (suc x) c high ws (omega (arith, l, g)) h.1)

-- what closing a mark needs of what was gathered
pub cycle_by :
    {A : Type 0} → (c high : ℕ) (z : Bool) (p : NamedBody A) → Rise (suc c) (named_ways p) high →
    NamedIsCycle c (joined p (NamedJump z c NamedEnd))
cycle_by c high z p h =
    record {
      jump = record {
        earlier = map (settled false) (named_ways p);
        later = [];
        split = ways-joined p (NamedJump z c NamedEnd);
        shorter = shorter_than (suc c) c high (named_ways p) (omega arith) h;
        one = tt;
      };
      last = refl;
    }
