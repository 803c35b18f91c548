-- Tight trees of parts with equal slots are equal.
use Rattle.std.proofs.Common.{◌≡◌, ℕ, zero, suc, ◌+◌, ◌<◌, ◌≤◌, Bool, List, [], ◌∷◌, ◌++◌, length, Option, Some, None}
use Rattle.std.proofs.Common.{refl, subst, arith, true, false, sym, ap, ◌∙◌, ⊎_elim, ◌||◌}
use Rattle.std.specs.Prelude.{map, ◌==◌, if◌then◌else◌}
use Rattle.std.proofs.lemmas.List.{length-append, length-map, append-nil, append_cancel_left, append_cancel_right}
use Rattle.std.proofs.lemmas.List.{map-append, map-id}
use Rattle.of_control.specs.Tight.{Each}
use Rattle.std.proofs.lemmas.Bool.{ne_eqb, eq-eqb, cases_lt}

-- an item as it is seen from inside its body: a jump to the k-th part round the body is a way out; None is an `endof`
pub data Slot (A : Type 0) : Type 0 where
  Does : A → Slot A
  Leaves : Slot A
  Out : Option Bool → ℕ → Slot A
  To : Option Bool → ℕ → Slot A
  Enters : Bool → ℕ → Slot A
  Again : Bool → Slot A
  Tests : ℕ → Slot A
  Drops : Slot A

-- what a part is, but for its inside
pub data Head (A : Type 0) : Type 0 where
  AnOperation : A → Head A
  ALeave : Head A
  AJump : Bool → ℕ → Head A
  ABlock : Head A
  ACycle : Head A
  ACounted : Bool → Bool → Head A
  AChoice : Head A
  AnArm : Head A

-- a body, each part with its inside and what follows
pub data Tree (A : Type 0) : Type 0 where
  Leaf : Tree A
  Node : Head A → Tree A → Tree A → Tree A

-- how many items stand before the inside of a part
abbrev pub opens : {A : Type 0} → Head A → ℕ
opens ABlock = 0
opens ACycle = 0
opens AChoice = 0
opens _ = 1

-- and how many after it
abbrev pub closes : {A : Type 0} → Head A → ℕ
closes (ACounted q l) = 1
closes AChoice = 1
closes AnArm = 1
closes _ = 0

-- where the inside of a part begins
abbrev pub starts : {A : Type 0} → Head A → ℕ → ℕ
starts ABlock n = n
starts ACycle n = n
starts AChoice n = n
starts _ n = suc n

abbrev pub width : {A : Type 0} → Head A → ℕ → ℕ
width ABlock m = m
width ACycle m = m
width (ACounted q l) m = suc (suc m)
width AnArm m = suc (suc m)
width _ m = suc m

abbrev pub size : {A : Type 0} → Tree A → ℕ
size Leaf = 0
size (Node h i r) = width h (size i) + size r

-- the items before the inside of a part that ends at e
abbrev pub before : {A : Type 0} → Head A → ℕ → List (Slot A)
before (AnOperation a) e = Does a ∷ []
before ALeave e = Leaves ∷ []
before (AJump z k) e = Out (Some z) k ∷ []
before (ACounted q l) e = Enters q e ∷ []
before AnArm e = Tests e ∷ []
before _ e = []

abbrev pub behind : {A : Type 0} → Head A → List (Slot A)
behind (ACounted q l) = Again l ∷ []
behind AChoice = Drops ∷ []
behind AnArm = Out None 0 ∷ []
behind _ = []

-- the way out of the innermost part goes to t
abbrev pub close : {A : Type 0} → ℕ → Slot A → Slot A
close t (Does a) = Does a
close t Leaves = Leaves
close t (Out j zero) = To j t
close t (Out j (suc k)) = Out j k
close t (To j u) = To j u
close t (Enters q u) = Enters q u
close t (Again l) = Again l
close t (Tests u) = Tests u
close t Drops = Drops

abbrev pub bound : {A : Type 0} → Head A → ℕ → ℕ → Slot A → Slot A
bound ABlock n e x = close e x
bound ACycle n e x = close n x
bound AChoice n e x = close e x
bound _ n e x = x

abbrev pub part : {A : Type 0} → Head A → ℕ → ℕ → List (Slot A) → List (Slot A)
part h n m xs = before h (n + width h m) ++ (map (bound h n (n + width h m)) xs ++ behind h)

-- the items of a tree from number n on
abbrev pub slots : {A : Type 0} → Tree A → ℕ → List (Slot A)
slots Leaf n = []
slots (Node h i r) n = part h n (size i) (slots i (starts h n)) ++ slots r (n + width h (size i))

-- ---- lengths

pub starts-is : {A : Type 0} → (h : Head A) (n : ℕ) → starts h n ≡ n + opens h
starts-is h n = grind (arith)

pub width-is : {A : Type 0} → (h : Head A) (m : ℕ) → width h m ≡ opens h + (m + closes h)
width-is h m = grind (arith)

pub length-part :
    {A : Type 0} → (h : Head A) (n m : ℕ) (xs : List (Slot A)) → length (part h n m xs) ≡ width h (length xs)
length-part h n m xs = grind (arith, length-append, length-map, width-is)

pub length-slots : {A : Type 0} → (t : Tree A) (n : ℕ) → length (slots t n) ≡ size t
length-slots Leaf n = refl
length-slots (Node h i r) n =
    grind (arith, length-slots i (starts h n), length-slots r (n + width h (size i)), length-append, length-part)

-- ---- all targets

-- where an item may go, but for `leave` and loops' ends, is in P
abbrev pub Aims : {A : Type 0} → (ℕ → Type 0) → Slot A → Type 0
Aims P (To j u) = P u
Aims P (Enters q u) = P u
Aims P (Tests u) = P u
Aims P _ = Unit {0}

pub each-append :
    {A : Type 0} → (P : Slot A → Type 0) (xs ys : List (Slot A)) → Each P xs → Each P ys → Each P (xs ++ ys)
each-append P [] ys h k = k
each-append P (x ∷ xs) ys h k = (h.0, each-append P xs ys h.1 k)

pub each-map :
    {A : Type 0} → (P Q : Slot A → Type 0) (f : Slot A → Slot A) (xs : List (Slot A)) → ((x : Slot A) → P x → Q (f x)) →
    Each P xs → Each Q (map f xs)
each-map P Q f [] g h = tt
each-map P Q f (x ∷ xs) g h = (g x h.0, each-map P Q f xs g h.1)

pub each-more :
    {A : Type 0} → (P Q : Slot A → Type 0) (xs : List (Slot A)) → ((x : Slot A) → P x → Q x) → Each P xs → Each Q xs
each-more P Q [] g h = tt
each-more P Q (x ∷ xs) g h = (g x h.0, each-more P Q xs g h.1)

pub each-both :
    {A : Type 0} → (P Q : Slot A → Type 0) (xs : List (Slot A)) → Each P xs → Each Q xs → Each (λ x. P x × Q x) xs
each-both P Q [] g h = tt
each-both P Q (x ∷ xs) g h = ((g.0, h.0), each-both P Q xs g.1 h.1)

pub aims-more : {A : Type 0} → (P Q : ℕ → Type 0) → ((u : ℕ) → P u → Q u) → (x : Slot A) → Aims P x → Aims Q x
aims-more P Q g h3 h = grind (arith)

aims-bound :
    {A : Type 0} → (P : ℕ → Type 0) (h : Head A) (n e : ℕ) → P n → P e → (x : Slot A) → Aims P x →
    Aims P (bound h n e x)
aims-bound P h n e p q x g = grind arith

aims-before : {A : Type 0} → (P : ℕ → Type 0) (h : Head A) (e : ℕ) → P e → Each (Aims P) (before h e)
aims-before P h e p = grind (arith)

aims-behind : {A : Type 0} → (P : ℕ → Type 0) (h : Head A) → Each (Aims P) (behind h)
aims-behind P h = grind (arith)

abbrev pub Within : ℕ → ℕ → ℕ → Type 0
Within a b u = (a ≤ u) × (u ≤ b)

pub within-more :
    {A : Type 0} → (a b c d : ℕ) → c ≤ a → b ≤ d → (xs : List (Slot A)) → Each (Aims (Within a b)) xs →
    Each (Aims (Within c d)) xs
within-more a b c d p q xs h = grind (arith, each-more, aims-more)

pub within-part :
    {A : Type 0} → (h : Head A) (n m : ℕ) (xs : List (Slot A)) → Each (Aims (Within (starts h n) (starts h n + m))) xs →
    Each (Aims (Within n (n + width h m))) (part h n m xs)
within-part h n m xs w =
    let e = n + width h m in
    let P = Within n e in
    let wi = width-is h m in
    let pn : P n = (omega arith, omega arith) in
    let pe : P e = (omega arith, omega arith) in
    let st = starts-is h n in
    let inner = within-more (starts h n) (starts h n + m) n e (omega (arith, st)) (omega (arith, st, wi)) xs w in
    each-append (Aims P) (before h e) _ (aims-before P h e pe) (each-append (Aims P) (map (bound h n e) xs) (behind h)
    (each-map (Aims P) (Aims P) (bound h n e) xs (aims-bound P h n e pn pe) inner) (aims-behind P h))

pub within : {A : Type 0} → (t : Tree A) (n : ℕ) → Each (Aims (Within n (n + size t))) (slots t n)
within Leaf n = tt
within (Node h i r) n =
    let e = n + width h (size i) in
    let xs = part h n (size i) (slots i (starts h n)) in
    each-append _ xs (slots r e) (within-more n e n (n + size (Node h i r)) (omega arith) (omega arith) xs (within-part
    h n (size i) (slots i (starts h n)) (within i (starts h n)))) (within-more e (e + size r) n (n + size (Node h i r))
    (omega arith) (omega arith) (slots r e) (within r e))

-- ---- cuts: item c is a cut of these items, from number p on, where none goes across it

abbrev pub Keeps : ℕ → ℕ → ℕ → Type 0
Keeps p c u = (p < c → u ≤ c) × (c ≤ p → c ≤ u)

abbrev pub CutIn : {A : Type 0} → ℕ → ℕ → List (Slot A) → Type 0
CutIn p c [] = Unit {0}
CutIn p c (x ∷ xs) = Aims (Keeps p c) x × CutIn (suc p) c xs

pub cut-left : {A : Type 0} → (p c : ℕ) (xs ys : List (Slot A)) → CutIn p c (xs ++ ys) → CutIn p c xs
cut-left p c [] ys h = tt
cut-left p c (x ∷ xs) ys h = (h.0, cut-left (suc p) c xs ys h.1)

pub cut-right :
    {A : Type 0} → (p c q : ℕ) (xs ys : List (Slot A)) → p + length xs ≡ q → CutIn p c (xs ++ ys) → CutIn q c ys
cut-right p c q [] ys e h = subst (λ k. CutIn k c ys) (omega (arith, e)) h
cut-right p c q (x ∷ xs) ys e h = cut-right (suc p) c q xs ys (omega (arith, e)) h.1

pub cut-join :
    {A : Type 0} → (p c q : ℕ) (xs ys : List (Slot A)) → p + length xs ≡ q → CutIn p c xs → CutIn q c ys →
    CutIn p c (xs ++ ys)
cut-join p c q [] ys e h k = subst (λ n. CutIn n c ys) (omega (arith, e)) k
cut-join p c q (x ∷ xs) ys e h k = (h.0, cut-join (suc p) c q xs ys (omega (arith, e)) h.1 k)

pub cut-low :
    {A : Type 0} → (p c : ℕ) (xs : List (Slot A)) → p + length xs ≤ c → Each (Aims (λ u. u ≤ c)) xs → CutIn p c xs
cut-low p c [] l h = tt
cut-low p c (x ∷ xs) l h = grind (arith, cut-low (suc p) c xs (omega (arith, l)) h.1, aims-more)

pub cut-high : {A : Type 0} → (p c : ℕ) (xs : List (Slot A)) → c ≤ p → Each (Aims (λ u. c ≤ u)) xs → CutIn p c xs
cut-high p c [] l h = tt
cut-high p c (x ∷ xs) l h = grind (arith, cut-high (suc p) c xs (omega (arith, l)) h.1, aims-more)

pub cut-unclose : {A : Type 0} → (p c t : ℕ) (xs : List (Slot A)) → CutIn p c (map (close t) xs) → CutIn p c xs
cut-unclose p c t [] h = tt
cut-unclose p c t (x ∷ xs) h = grind (arith, cut-unclose (suc p) c t xs h.1)

-- ---- tight trees with equal slots are equal

-- no way out of the part
abbrev pub IsInner : {A : Type 0} → Slot A → Type 0
IsInner (Out j zero) = ⊥
IsInner _ = Unit {0}

-- no way out of any but, for arms, the choice
abbrev pub IsShut : {A : Type 0} → Slot A → Type 0
IsShut (Out None (suc k)) = ⊥
IsShut (Out (Some z) k) = ⊥
IsShut _ = Unit {0}

-- whether this is a jump, and no `endof`, to e
abbrev pub hits : {A : Type 0} → ℕ → Slot A → Bool
hits e (To (Some z) u) = u == e
hits e _ = false

abbrev pub first : {A : Type 0} → Tree A → ℕ
first Leaf = 0
first (Node h i r) = width h (size i)

-- the one jump out of a Block that begins at n: it is in the first part, and no earlier item goes to the same place
pub record IsLeft {A : Type 0} (n : ℕ) (i : Tree A) : Type 0 where
  pub earlier : List (Slot A)
  pub by : Bool
  pub later : List (Slot A)
  pub split : slots i n ≡ earlier ++ (Out (Some by) 0 ∷ later)
  pub one_before : Each IsInner earlier
  pub one_after : Each IsInner later
  pub least : Each (λ x. hits (n + size i) x ≡ false) earlier
  pub soon : length earlier < first i

-- the one jump back of a Cycle
pub record IsRepeated {A : Type 0} (n : ℕ) (i : Tree A) : Type 0 where
  pub earlier : List (Slot A)
  pub by : Bool
  pub split : slots i n ≡ earlier ++ (Out (Some by) 0 ∷ [])
  pub one : Each IsInner earlier
  pub inside : Each (λ x. hits (n + size i) x ≡ false) earlier

abbrev pub IsLeaf : {A : Type 0} → Tree A → Type 0
IsLeaf Leaf = Unit {0}
IsLeaf (Node h i r) = ⊥

abbrev pub IsArm : {A : Type 0} → Head A → Type 0
IsArm AnArm = Unit {0}
IsArm _ = ⊥

abbrev pub BeginsWithArm : {A : Type 0} → Tree A → Type 0
BeginsWithArm Leaf = Unit {0}
BeginsWithArm (Node h i r) = IsArm h

abbrev pub Fits : {A : Type 0} → Head A → ℕ → Tree A → Type 0
Fits ABlock n i = IsLeft n i
Fits ACycle n i = IsRepeated n i
Fits (ACounted q l) n i = Unit {0}
Fits AChoice n i = Each IsShut (slots i n) × BeginsWithArm i
Fits AnArm n i = Unit {0}
Fits _ n i = IsLeaf i

abbrev pub Tight : {A : Type 0} → ℕ → Tree A → Type 0
Tight n Leaf = Unit {0}
Tight n (Node h i r) = Fits h n i × Tight (starts h n) i × Tight (n + width h (size i)) r

-- ---- the first part of one ends where the first part of the other does

cut_at :
    {A : Type 0} → (p c : ℕ) (xs ys : List (Slot A)) (x : Slot A) → CutIn p c (xs ++ (x ∷ ys)) →
    Aims (Keeps (p + length xs) c) x
cut_at p c xs ys x h = (cut-right p c (p + length xs) xs (x ∷ ys) refl h).0

left_covers :
    {A : Type 0} → (n c : ℕ) (i : Tree A) → IsLeft n i → n + first i ≤ c →
    CutIn n c (map (close (n + size i)) (slots i n)) → n + size i ≤ c
left_covers n c i f l h = grind (arith, size, close, map-append, cut_at, length-map)

repeated_covers :
    {A : Type 0} → (n c : ℕ) (i : Tree A) → IsRepeated n i → n < c → CutIn n c (map (close n) (slots i n)) →
    n + size i ≤ c
repeated_covers n c i f l h =
    let xs = map (close n) f.earlier in
    let k = subst (λ ys. CutIn n c ys) (ap (map (close n)) f.split
    ∙ map-append (close n) f.earlier (Out (Some f.by) 0 ∷ [])) h in
    let w = cut_at n c xs [] (To (Some f.by) n) k in
    let lx = length-map f.earlier (close n) in
    let total = sym (length-slots i n) ∙ ap length f.split ∙ length-append f.earlier (Out (Some f.by) 0 ∷ []) in
    let below : (c ≤ n + length xs) → ⊥ = λ g. let m = w.1 g in omega (arith, m, l) in
    ⊎_elim (λ g. omega (arith, g, lx, total)) (λ g. absurd (below g)) (cases_lt (n + length xs) c)

pub covers : {A : Type 0} → (t : Tree A) (n c : ℕ) → Tight n t → n < c → CutIn n c (slots t n) → n + first t ≤ c
covers Leaf n c w l h = omega (arith, l)
covers (Node (AnOperation a) i r) n c w l h = grind arith
covers (Node ALeave i r) n c w l h = grind arith
covers (Node (AJump z k) i r) n c w l h = grind arith
covers {A = A} (Node ABlock i r) n c w l h =
    let e = n + width {A = A} ABlock (size i) in
    let xs = map (close e) (slots i n) in
    let one = cut-left n c (part ABlock n (size i) (slots i n)) (slots r e) h in
    let two = cut-left n c xs [] one in
    left_covers n c i w.0 (covers i n c w.1 l (cut-unclose n c e (slots i n) two)) two
covers {A = A} (Node ACycle i r) n c w l h = grind (arith, width, size, cut-left, part, slots, repeated_covers, close)
covers {A = A} (Node AChoice i r) n c w l h =
    grind (arith, width, size, cut-left, part, slots, bound, close, map-append, cut_at, length-map, length-slots)
covers _ n c w l h = h.0.0 l

cut_first : {A : Type 0} → (h : Head A) (i r : Tree A) (n : ℕ) → CutIn n (n + width h (size i)) (slots (Node h i r) n)
cut_first h i r n =
    let e = n + width h (size i) in
    let xs = slots i (starts h n) in
    let p = part h n (size i) xs in
    let lp = length-part h n (size i) xs ∙ ap (width h) (length-slots i (starts h n)) in
    let low = each-more (Aims (Within n e)) (Aims (λ u. u ≤ e)) p (aims-more (Within n e) (λ u. u ≤ e) (λ u k. k.1))
    (within-part h n (size i) xs (within i (starts h n))) in
    let high = each-more (Aims (Within e (e + size r))) (Aims (λ u. e ≤ u)) (slots r e)
    (aims-more (Within e (e + size r)) (λ u. e ≤ u) (λ u k. k.0)) (within r e) in
    cut-join n e e p (slots r e) (omega (arith, lp)) (cut-low n e p (omega (arith, lp)) low)
    (cut-high e e (slots r e) (omega arith) high)

-- ---- what the first part is

abbrev has_hit : {A : Type 0} → ℕ → List (Slot A) → Bool
has_hit e [] = false
has_hit e (x ∷ xs) = hits e x || has_hit e xs

abbrev last_of : {A : Type 0} → Slot A → List (Slot A) → Slot A
last_of d [] = d
last_of d (x ∷ xs) = last_of x xs

abbrev entered : {A : Type 0} → List (Slot A) → Bool
entered (Enters q u ∷ xs) = q
entered _ = false

abbrev by_last : {A : Type 0} → Bool → Slot A → Head A
by_last q (Does a) = AnOperation a
by_last q (Out (Some z) k) = AJump z k
by_last q (Out None k) = AnArm
by_last q (To j u) = ACycle
by_last q (Again l) = ACounted q l
by_last q Drops = AChoice
by_last q _ = ALeave

abbrev head_of : {A : Type 0} → ℕ → List (Slot A) → Head A
head_of e xs = if has_hit e xs then ABlock else by_last (entered xs) (last_of Leaves xs)

last_is : {A : Type 0} → (d x : Slot A) (xs : List (Slot A)) → last_of d (xs ++ (x ∷ [])) ≡ x
last_is d x [] = refl
last_is d x (y ∷ xs) = last_is y x xs

hit_there :
    {A : Type 0} → (e : ℕ) (xs ys : List (Slot A)) (x : Slot A) → hits e x ≡ true → has_hit e (xs ++ (x ∷ ys)) ≡ true
hit_there e [] ys x h = ap (λ b. b || has_hit e ys) h
hit_there e (y ∷ xs) ys x h = grind (arith, hit_there e xs ys x h)

no_hit : {A : Type 0} → (e : ℕ) (xs : List (Slot A)) → Each (λ x. hits e x ≡ false) xs → has_hit e xs ≡ false
no_hit e [] h = refl
no_hit e (x ∷ xs) h = ap (λ b. b || has_hit e xs) h.0 ∙ no_hit e xs h.1

misses : {A : Type 0} → (e : ℕ) (x : Slot A) → Aims (λ u. u < e) x → hits e x ≡ false
misses e x h = grind (arith, ne_eqb)

misses_arms : {A : Type 0} → (e : ℕ) (x : Slot A) → IsShut x × Aims (λ u. u < e) x → hits e (close e x) ≡ false
misses_arms e x h = grind (arith, misses)

-- all of these go before e
pub strict :
    {A : Type 0} → (a b e : ℕ) → b < e → (xs : List (Slot A)) → Each (Aims (Within a b)) xs →
    Each (Aims (λ u. u < e)) xs
strict a b e l xs h = grind (arith, each-more, aims-more)

pub missing :
    {A : Type 0} → (e : ℕ) (xs : List (Slot A)) → Each (Aims (λ u. u < e)) xs → Each (λ x. hits e x ≡ false) xs
missing e xs h = each-more (Aims (λ u. u < e)) (λ x. hits e x ≡ false) xs (misses e) h

by_head :
    {A : Type 0} → (e : ℕ) (xs : List (Slot A)) (x : Slot A) (h : Head A) → has_hit e xs ≡ false →
    last_of Leaves xs ≡ x → by_last (entered xs) x ≡ h → head_of e xs ≡ h
by_head e xs x h p q r = grind (arith)

cycle_parts :
    {A : Type 0} → (n : ℕ) (i : Tree A) → (f : IsRepeated n i) →
    part ACycle n (size i) (slots i n) ≡ map (close n) f.earlier ++ (To (Some f.by) n ∷ [])
cycle_parts n i f = grind (arith, append-nil, close, slots, map-append)

misses_close : {A : Type 0} → (e n : ℕ) → n < e → (x : Slot A) → hits e x ≡ false → hits e (close n x) ≡ false
misses_close e n l h3 h = grind (arith, ne_eqb)

cycle_head :
    {A : Type 0} → (n : ℕ) (i : Tree A) → IsRepeated n i →
    head_of (n + size i) (part ACycle n (size i) (slots i n)) ≡ ACycle
cycle_head {A = A} n i f =
    let e = n + size i in
    let xs = map (close n) f.earlier in
    let total = sym (length-slots i n) ∙ ap length f.split ∙ length-append f.earlier (Out (Some f.by) 0 ∷ []) in
    let l : n < e = omega (arith, total) in
    let inner = each-map (λ x. hits e x ≡ false) (λ x. hits e x ≡ false) (close n) f.earlier
    (misses_close e n l) f.inside in
    let none = no_hit e (xs ++ (To (Some f.by) n ∷ []))
    (each-append (λ x. hits e x ≡ false) xs (To (Some f.by) n ∷ []) inner (misses {A = A} e (To (Some f.by) n) l, tt))
    in
    ap (head_of e) (cycle_parts n i f)
    ∙ by_head e (xs ++ (To (Some f.by) n ∷ [])) (To (Some f.by) n) ACycle none
    (last_is Leaves (To (Some f.by) n) xs) refl

counted_head :
    {A : Type 0} → (n : ℕ) (i : Tree A) (q l : Bool) →
    head_of (n + suc (suc (size i))) (part (ACounted q l) n (size i) (slots i (suc n))) ≡ ACounted q l
counted_head n i q l =
    let e = n + suc (suc (size i)) in
    let xs = map (bound (ACounted q l) n e) (slots i (suc n)) in
    let inner = each-map (Aims (λ u. u < e)) (Aims (λ u. u < e)) (bound (ACounted q l) n e) (slots i (suc n)) (λ x g. g)
    (strict (suc n) (suc n + size i) e (omega arith) (slots i (suc n)) (within i (suc n))) in
    let all = each-append (Aims (λ u. u < e)) xs (Again l ∷ []) inner (tt, tt) in
    let none = no_hit e (xs ++ (Again l ∷ [])) (missing e (xs ++ (Again l ∷ [])) all) in
    by_head e (Enters q e ∷ (xs ++ (Again l ∷ []))) (Again l) _ none (last_is (Enters q e) (Again l) xs) refl

arm_head :
    {A : Type 0} → (n : ℕ) (i : Tree A) →
    head_of (n + suc (suc (size i))) (part AnArm n (size i) (slots i (suc n))) ≡ AnArm
arm_head n i =
    let e = n + suc (suc (size i)) in
    let xs = map (bound AnArm n e) (slots i (suc n)) in
    let inner = each-map (Aims (λ u. u < e)) (Aims (λ u. u < e)) (bound AnArm n e) (slots i (suc n)) (λ x g. g)
    (strict (suc n) (suc n + size i) e (omega arith) (slots i (suc n)) (within i (suc n))) in
    let all = each-append (Aims (λ u. u < e)) xs (Out None 0 ∷ []) inner (tt, tt) in
    let none = no_hit e (xs ++ (Out None 0 ∷ [])) (missing e (xs ++ (Out None 0 ∷ [])) all) in
    by_head e (Tests e ∷ (xs ++ (Out None 0 ∷ []))) (Out None 0) AnArm none (last_is (Tests e) (Out None 0) xs) refl

choice_head :
    {A : Type 0} → (n : ℕ) (i : Tree A) → Each IsShut (slots i n) →
    head_of (n + suc (size i)) (part AChoice n (size i) (slots i n)) ≡ AChoice
choice_head n i s =
    let e = n + suc (size i) in
    let xs = map (close e) (slots i n) in
    let low = strict n (n + size i) e (omega arith) (slots i n) (within i n) in
    let inner = each-map (λ x. IsShut x × Aims (λ u. u < e) x) (λ x. hits e x ≡ false) (close e) (slots i n)
    (misses_arms e) (each-both IsShut (Aims (λ u. u < e)) (slots i n) s low) in
    let none = no_hit e (xs ++ (Drops ∷ [])) (each-append (λ x. hits e x ≡ false) xs (Drops ∷ []) inner (refl, tt)) in
    by_head e (xs ++ (Drops ∷ [])) Drops AChoice none (last_is Leaves Drops xs) refl

head_is :
    {A : Type 0} → (h : Head A) (n : ℕ) (i : Tree A) → Fits h n i →
    head_of (n + width h (size i)) (part h n (size i) (slots i (starts h n))) ≡ h
head_is ABlock n i f = grind (arith, size, close, append-nil, slots, map-append, hit_there, eq-eqb, part)
head_is ACycle n i f = cycle_head n i f
head_is (ACounted q l) n i f = counted_head n i q l
head_is AChoice n i f = choice_head n i f.0
head_is AnArm n i f = arm_head n i
head_is _ n i f = grind arith

-- ---- what is inside the first part

-- an item seen from inside of a part that it is seen in
abbrev unclosed : {A : Type 0} → Slot A → Slot A
unclosed (Out j k) = Out j (suc k)
unclosed (Does a) = Does a
unclosed Leaves = Leaves
unclosed (To j u) = To j u
unclosed (Enters q u) = Enters q u
unclosed (Again l) = Again l
unclosed (Tests u) = Tests u
unclosed Drops = Drops

-- the same, with the way out to e
abbrev way_out : {A : Type 0} → Slot A → Slot A
way_out (To j u) = Out j 0
way_out (Out j k) = Out j k
way_out (Does a) = Does a
way_out Leaves = Leaves
way_out (Enters q u) = Enters q u
way_out (Again l) = Again l
way_out (Tests u) = Tests u
way_out Drops = Drops

abbrev in_choice : {A : Type 0} → ℕ → Slot A → Slot A
in_choice e (To j u) = if u == e then Out j 0 else To j u
in_choice e (Out j k) = Out j k
in_choice e (Does a) = Does a
in_choice e Leaves = Leaves
in_choice e (Enters q u) = Enters q u
in_choice e (Again l) = Again l
in_choice e (Tests u) = Tests u
in_choice e Drops = Drops

-- the first jump to e is the way out
abbrev reopened : {A : Type 0} → ℕ → List (Slot A) → List (Slot A)
reopened e [] = []
reopened e (x ∷ xs) = if hits e x then way_out x ∷ map unclosed xs else unclosed x ∷ reopened e xs

undone :
    {A : Type 0} → (f g : Slot A → Slot A) (xs : List (Slot A)) → Each (λ x. g (f x) ≡ x) xs → map g (map f xs) ≡ xs
undone f g [] h = refl
undone f g (x ∷ xs) h = ap (λ y. y ∷ map g (map f xs)) h.0 ∙ ap (λ ys. x ∷ ys) (undone f g xs h.1)

choice-close : {A : Type 0} → (e : ℕ) (x : Slot A) → IsShut x × Aims (λ u. u < e) x → in_choice e (close e x) ≡ x
choice-close e x h = grind (arith, eq-eqb, ne_eqb)

reopened_is :
    {A : Type 0} → (e : ℕ) (z : Bool) (xs ys : List (Slot A)) → Each IsInner xs → Each (λ x. hits e x ≡ false) xs →
    Each IsInner ys → reopened e (map (close e) xs ++ (To (Some z) e ∷ map (close e) ys)) ≡ xs ++ (Out (Some z) 0 ∷ ys)
reopened_is e z [] ys i m j = grind (arith, eq-eqb, undone, close, each-more)
reopened_is e z (x ∷ xs) ys i m j = grind (arith, reopened_is e z xs ys i.1 m.1 j, close)

left_inside :
    {A : Type 0} → (n : ℕ) (i : Tree A) → IsLeft n i →
    reopened (n + size i) (map (close (n + size i)) (slots i n)) ≡ slots i n
left_inside n i f =
    let e = n + size i in
    ap (reopened e) (ap (map (close e)) f.split ∙ map-append (close e) f.earlier (Out (Some f.by) 0 ∷ f.later))
    ∙ reopened_is e f.by f.earlier f.later f.one_before f.least f.one_after ∙ sym f.split

-- the last item, in place of what stands there
abbrev last_out : {A : Type 0} → List (Slot A) → List (Slot A)
last_out [] = []
last_out (x ∷ []) = way_out x ∷ []
last_out (x ∷ y ∷ xs) = unclosed x ∷ last_out (y ∷ xs)

last_out_is :
    {A : Type 0} → (n : ℕ) (z : Bool) (xs : List (Slot A)) → Each IsInner xs →
    last_out (map (close n) xs ++ (To (Some z) n ∷ [])) ≡ xs ++ (Out (Some z) 0 ∷ [])
last_out_is n z [] h = refl
last_out_is n z (x ∷ []) h = grind arith
last_out_is n z (x ∷ y ∷ xs) h = grind (arith, last_out_is n z (y ∷ xs) h.1, close)

repeated_inside :
    {A : Type 0} → (n : ℕ) (i : Tree A) → IsRepeated n i → last_out (map (close n) (slots i n)) ≡ slots i n
repeated_inside n i f =
    ap last_out (ap (map (close n)) f.split ∙ map-append (close n) f.earlier (Out (Some f.by) 0 ∷ []))
    ∙ last_out_is n f.by f.earlier f.one ∙ sym f.split

choice_inside :
    {A : Type 0} → (n : ℕ) (i : Tree A) → Each IsShut (slots i n) →
    map (in_choice (n + suc (size i))) (map (close (n + suc (size i))) (slots i n)) ≡ slots i n
choice_inside n i s =
    let e = n + suc (size i) in
    let low = strict n (n + size i) e (omega arith) (slots i n) (within i n) in
    undone (close e) (in_choice e) (slots i n)
    (each-more (λ x. IsShut x × Aims (λ u. u < e) x) (λ x. in_choice e (close e x) ≡ x) (slots i n) (choice-close e)
    (each-both IsShut (Aims (λ u. u < e)) (slots i n) s low))

-- the items inside, from those of the part
abbrev inside_of : {A : Type 0} → Head A → ℕ → List (Slot A) → List (Slot A)
inside_of ABlock e xs = reopened e xs
inside_of ACycle e xs = last_out xs
inside_of (ACounted q l) e xs = xs
inside_of AChoice e xs = map (in_choice e) xs
inside_of AnArm e xs = xs
inside_of _ e xs = []

inside_is :
    {A : Type 0} → (h : Head A) (n : ℕ) (i : Tree A) → Fits h n i →
    inside_of h (n + width h (size i)) (map (bound h n (n + width h (size i))) (slots i (starts h n))) ≡ slots i
    (starts h n)
inside_is ABlock n i f = left_inside n i f
inside_is ACycle n i f = repeated_inside n i f
inside_is (ACounted q l) n i f = map-id (slots i (suc n))
inside_is AChoice n i f = choice_inside n i f.0
inside_is AnArm n i f = map-id (slots i (suc n))
inside_is _ n i f = grind arith

-- ---- trees with equal slots

pub split_equal :
    {A : Type 0} → (xs ys us vs : List (Slot A)) → length xs ≡ length us → xs ++ ys ≡ us ++ vs → (xs ≡ us) × (ys ≡ vs)
split_equal [] ys [] vs l e = (refl, e)
split_equal (x ∷ xs) ys (u ∷ us) vs l e = grind (arith, split_equal xs ys us vs (omega (arith, l)) cc)
split_equal _ ys _ vs l e = absurd (omega (arith, l))

pub wide_left :
    {A : Type 0} → (n : ℕ) (i : Tree A) (xs ys : List (Slot A)) (x : Slot A) → slots i n ≡ xs ++ (x ∷ ys) → 1 ≤ size i
wide_left n i xs ys x e =
    let total = sym (length-slots i n) ∙ ap length e ∙ length-append xs (x ∷ ys) in
    omega (arith, total)

-- each part has an item
pub wide : {A : Type 0} → (h : Head A) (n : ℕ) (i : Tree A) → Fits h n i → 1 ≤ width h (size i)
wide h n i f = grind (arith, wide_left)

-- of two trees with these items, the first part of one is no wider than that of the other
no_wider :
    {A : Type 0} → (h g : Head A) (i r j s : Tree A) (n : ℕ) → Tight n (Node h i r) → Fits g n j →
    slots (Node h i r) n ≡ slots (Node g j s) n → width h (size i) ≤ width g (size j)
no_wider h g i r j s n w f e =
    let c = n + width g (size j) in
    let l = wide g n j f in
    let k = covers (Node h i r) n c w (omega (arith, l)) (subst (λ xs. CutIn n c xs) (sym e) (cut_first g j s n)) in
    omega (arith, k)

-- the same first part: what is inside is the same
same_inside :
    {A : Type 0} → (h : Head A) (i j : Tree A) (n : ℕ) → Fits h n i → Fits h n j → width h (size i) ≡ width h (size j) →
    part h n (size i) (slots i (starts h n)) ≡ part h n (size j) (slots j (starts h n)) →
    slots i (starts h n) ≡ slots j (starts h n)
same_inside h i j n f g w e = grind (arith, append_cancel_right, append_cancel_left, inside_is)

record SameParts {A : Type 0} (h g : Head A) (i r j s : Tree A) (n : ℕ) : Type 0 where
  pub heads : h ≡ g
  pub wide : width h (size i) ≡ width g (size j)
  pub parts : part h n (size i) (slots i (starts h n)) ≡ part g n (size j) (slots j (starts g n))
  pub rests : slots r (n + width h (size i)) ≡ slots s (n + width g (size j))

same_parts :
    {A : Type 0} → (h g : Head A) (i r j s : Tree A) (n : ℕ) → Tight n (Node h i r) → Tight n (Node g j s) →
    slots (Node h i r) n ≡ slots (Node g j s) n → SameParts h g i r j s n
same_parts h g i r j s n w v e =
    let p = part h n (size i) (slots i (starts h n)) in
    let q = part g n (size j) (slots j (starts g n)) in
    let one = no_wider h g i r j s n w v.0 e in
    let two = no_wider g h j s i r n v w.0 (sym e) in
    let eq : width h (size i) ≡ width g (size j) = omega (arith, one, two) in
    let lp = length-part h n (size i) (slots i (starts h n)) ∙ ap (width h) (length-slots i (starts h n)) in
    let lq = length-part g n (size j) (slots j (starts g n)) ∙ ap (width g) (length-slots j (starts g n)) in
    let both = split_equal p (slots r (n + width h (size i))) q (slots s (n + width g (size j))) (lp ∙ eq ∙ sym lq) e in
    let hd = sym (head_is h n i w.0) ∙ ap (λ k. head_of k p) (ap (λ k. n + k) eq)
    ∙ ap (head_of (n + width g (size j))) both.0 ∙ head_is g n j v.0 in
    record { heads = hd; wide = eq; parts = both.0; rests = both.1 }

-- tight trees with the same items are the same
pub same : {A : Type 0} → (t u : Tree A) (n : ℕ) → Tight n t → Tight n u → slots t n ≡ slots u n → t ≡ u
same Leaf Leaf n w v e = refl
same Leaf (Node g j s) n w v e =
    let l = ap length e ∙ length-slots (Node g j s) n in
    let k = wide g n j v.0 in
    absurd (omega (arith, l, k))
same (Node h i r) Leaf n w v e =
    let l = ap length (sym e) ∙ length-slots (Node h i r) n in
    let k = wide h n i w.0 in
    absurd (omega (arith, l, k))
same (Node h i r) (Node g j s) n w v e =
    grind (arith, same i j (starts h n) w.1, same r s (n + width h (size i)) w.2, same_parts, same_inside)
