-- How often a block is live, in the region and among the instances.
use Rattle.std.proofs.Common.{◌≡◌, ℕ, zero, suc, ◌+◌, ◌<◌, ◌≤◌, Bool, true, false, cond, List}
use Rattle.std.proofs.Common.{[], ◌∷◌, ◌++◌, length, get_or, Option, Some, None, Result, Ok, Err, refl}
use Rattle.std.proofs.Common.{sym, ap, ◌∙◌, arith, nat_lt}
use Rattle.std.specs.Prelude.{count_by, not, sum_by, set}
use Rattle.std.specs.List.{position, position_or_len, prefix_len, remove}
use Rattle.std.proofs.lemmas.Grind.{common_steps}
use Rattle.std.proofs.lemmas.List.Quantifiers.{position-Some}
use Rattle.std.proofs.lemmas.List.Sums.{sum_by-append, sum_by-cons, sum_by-remove, sum_by-set}
use Rattle.of_cells.specs.declared.cells.Cell.{Cell}
use Rattle.of_memory.specs.Blocks.{is_block, least_free, rounded, with_block as among}
use Rattle.of_memory.specs.BlockCalls.{instance_taken, instances_taken}
use Rattle.of_memory.specs.BlockSearch.{block_at}
use Rattle.of_memory.specs.DataSpace.{DataSpace, written}
use Rattle.of_memory.specs.Regions.{instance_limit, instance_start}
use Rattle.of_memory.specs.declared.fault.MemFault.{MemFault}
use Rattle.of_nodes.specs.declared.phandles.Phandle.{Phandle}
use Rattle.of_nodes.specs.declared.properties.Span.{Span}
use Rattle.of_ihandles.specs.declared.instances.Instance.{Instance}
use Rattle.of_ihandles.specs.declared.slots.Slot.{Slot}
use Rattle.of_ihandles.specs.declared.slots.Template.{Template}
use Rattle.of_ihandles.specs.Blocks.{all_begun, all_left, begun, blocks_taken, copied_to, copy_taken, given}
use Rattle.of_ihandles.specs.Blocks.{given_all}
use Rattle.of_ihandles.specs.Blocks.{one_left, span, spans}
use Rattle.of_ihandles.specs.Instances.{is_open, with_block, with_blocks}
use Rattle.of_ihandles.specs.OwnedBlocks.{blocks_of, is_held, live_blocks}
use Rattle.of_ihandles.specs.Slots.{template_bytes}
use Rattle.of_ihandles.proofs.BlocksTaken.{First, first_taken}
use Rattle.of_ihandles.proofs.RoomLoops.{counted, not_counted}

-- one or none
pub once : Bool → ℕ
once b = cond b 1 0

pub one : once true ≡ 1
unfolding once
one = refl

pub none : once false ≡ 0
unfolding once
none = refl

pub count-cons : {X : Type 0} (p : X → Bool) (x : X) (xs : List X) → count_by p (x ∷ xs) ≡ once (p x) + count_by p xs
unfolding once
count-cons p x xs = sum_by-cons (λ y. cond (p y) 1 0) x xs

pub count-append : {X : Type 0} (p : X → Bool) (xs ys : List X) → count_by p (xs ++ ys) ≡ count_by p xs + count_by p ys
count-append p xs ys = sum_by-append (λ y. cond (p y) 1 0) xs ys

count-remove : {X : Type 0} (p : X → Bool) (xs : List X) (i : ℕ) (d : X) → i < length xs
    → count_by p (remove xs i) + once (p (get_or xs i d)) ≡ count_by p xs
unfolding once
count-remove p xs i d l = sum_by-remove (λ y. cond (p y) 1 0) xs i d l

-- the data space counts the blocks of its instance region
pub region_count : DataSpace → ℕ → ℕ → ℕ
region_count m a s = count_by (is_block a s) m.instances

pub in_region : (m : DataSpace) (a s : ℕ) → region_count m a s ≡ count_by (is_block a s) m.instances
unfolding region_count
in_region m a s = refl

-- ---- how blocks begin changes no count

pub count-begun : (m : DataSpace) (bs : List Span) (ss : List Slot) (a s : ℕ)
    → region_count (begun m bs ss) a s ≡ region_count m a s
unfolding region_count
count-begun m bs [] a s = refl
count-begun m [] (t ∷ ss) a s = refl
count-begun m (b ∷ bs) (t ∷ ss) a s = count-begun (written m b.address.0 (template_bytes t.template)) bs ss a s

pub count-all_begun : (m : DataSpace) (bs : List Span) (t : Template) (a s : ℕ)
    → region_count (all_begun m bs t) a s ≡ region_count m a s
unfolding region_count
count-all_begun m [] t a s = refl
count-all_begun m (b ∷ bs) t a s = count-all_begun (written m b.address.0 (template_bytes t)) bs t a s

pub count-written : (m : DataSpace) (x : ℕ) (ys : List ℕ) (a s : ℕ)
    → region_count (written m x ys) a s ≡ region_count m a s
unfolding region_count
count-written m x ys a s = refl

-- ---- a block that is taken

count-among : (a s : ℕ) (b : _) (bs : _)
    → count_by (is_block a s) (among b bs) ≡ once (is_block a s b) + count_by (is_block a s) bs
count-among a s b [] = count-cons (is_block a s) b []
count-among a s b (c ∷ cs) = go (nat_lt b.at c.at) refl (count-among a s b cs)
  where
    go : (r : Bool) → nat_lt b.at c.at ≡ r
        → count_by (is_block a s) (among b cs) ≡ once (is_block a s b) + count_by (is_block a s) cs
        → count_by (is_block a s) (among b (c ∷ cs)) ≡ once (is_block a s b) + count_by (is_block a s) (c ∷ cs)
    go true h rest = rw h (count-cons (is_block a s) b (c ∷ cs))
    go false h rest =
        rw h (count-cons (is_block a s) c (among b cs)
        ∙ ap (λ n. once (is_block a s c) + n) rest
        ∙ swapped (once (is_block a s c)) (once (is_block a s b)) (count_by (is_block a s) cs)
        ∙ ap (λ n. once (is_block a s b) + n) (sym (count-cons (is_block a s) c cs)))
      where
        swapped : (x y z : ℕ) → x + (y + z) ≡ y + (x + z)
        swapped x y z = omega arith

pub count-taken : (m after : DataSpace) (n : Cell) (x a s : ℕ) → instance_taken m n.0 ≡ Ok (x, after)
    → region_count after a s ≡ once (is_held a s (span (record { 0 = x }) n)) + region_count m a s
unfolding region_count
count-taken m after n x a s e = go (least_free instance_start instance_limit m.instances (rounded n.0)) refl
  where
    go : (o : Option ℕ) → least_free instance_start instance_limit m.instances (rounded n.0) ≡ o
        → count_by (is_block a s) after.instances
        ≡ once (is_held a s (span (record { 0 = x }) n)) + count_by (is_block a s) m.instances
    go None f = let no = rw f at e in absurd cc
    go (Some y) f =
        let e' = rw f at e in
        let same : y ≡ x = ap (λ (r : Result (ℕ × DataSpace) MemFault). address r) e' in
        let space : among (block_at y (rounded n.0)) m.instances ≡ after.instances =
        ap (λ (r : Result (ℕ × DataSpace) MemFault). (space_of r).instances) e' in
        rw (← space) (rw same (count-among a s (block_at x (rounded n.0)) m.instances))
      where
        address : Result (ℕ × DataSpace) MemFault → ℕ
        address (Ok r) = r.0
        address (Err fault) = 0

        space_of : Result (ℕ × DataSpace) MemFault → DataSpace
        space_of (Ok r) = r.1
        space_of (Err fault) = m

pub count-all_taken : (m after : DataSpace) (ns as' : List Cell) (a s : ℕ) → instances_taken m ns ≡ Ok (as', after)
    → region_count after a s ≡ count_by (is_held a s) (spans as' ns) + region_count m a s
count-all_taken m after [] as' a s e =
    let both : ◌≡◌ {A = List Cell × DataSpace} ([], m) (as', after) = cc in
    let same : m ≡ after = ap (λ (p : List Cell × DataSpace). p.1) both in
    let no : [] ≡ as' = ap (λ (p : List Cell × DataSpace). p.0) both in
    rw (← same) (rw (← no) (omega arith))
count-all_taken m after (n ∷ ns) as' a s e =
    let f : First m after n ns as' = first_taken m after n ns as' e in
    let rest = count-all_taken f.left after ns f.others a s f.rest in
    let first = count-taken m f.left n f.address a s f.first in
    let cons = count-cons (is_held a s) (span (record { 0 = f.address }) n) (spans f.others ns) in
    rw f.all (omega (arith, rest, first, cons))

pub count-blocks_taken : (m after : DataSpace) (ns : List Cell) (bs : List Span) (a s : ℕ)
    → blocks_taken m ns ≡ Ok (bs, after) → region_count after a s ≡ count_by (is_held a s) bs + region_count m a s
count-blocks_taken m after ns bs a s e = go (instances_taken m ns) refl e
  where
    go : (r : Result (List Cell × DataSpace) MemFault) → instances_taken m ns ≡ r → all_left ns r ≡ Ok (bs, after)
        → region_count after a s ≡ count_by (is_held a s) bs + region_count m a s
    go (Err fault) f h = absurd cc
    go (Ok x) f h =
        let both : ◌≡◌ {A = List Span × DataSpace} (spans x.0 ns, x.1) (bs, after) = cc in
        let same : x.1 ≡ after = ap (λ (p : List Span × DataSpace). p.1) both in
        let blocks : spans x.0 ns ≡ bs = ap (λ (p : List Span × DataSpace). p.0) both in
        rw (← same) (rw (← blocks) (count-all_taken m x.1 ns x.0 a s f))

abbrev cell : ℕ → Cell
cell n = record { 0 = n }

pub count-copy_taken : (m after : DataSpace) (bytes : List ℕ) (b : Span) (a s : ℕ)
    → copy_taken m bytes ≡ Ok (b, after) → region_count after a s ≡ once (is_held a s b) + region_count m a s
count-copy_taken m after bytes b a s e = go (cell (length bytes)) (instance_taken m (length bytes)) refl e
  where
    go : (n : Cell) (r : Result (ℕ × DataSpace) MemFault) → instance_taken m n.0 ≡ r
        → copied_to bytes (one_left n r) ≡ Ok (b, after)
        → region_count after a s ≡ once (is_held a s b) + region_count m a s
    go n (Err fault) f h = absurd cc
    go n (Ok x) f h =
        let both : ◌≡◌ {A = Span × DataSpace} (span (cell x.0) n, written x.1 x.0 bytes) (b, after) = cc in
        let same : written x.1 x.0 bytes ≡ after = ap (λ (p : Span × DataSpace). p.1) both in
        let block : span (cell x.0) n ≡ b = ap (λ (p : Span × DataSpace). p.0) both in
        rw (← same) (rw (← block) (count-written x.1 x.0 bytes a s ∙ count-taken m x.1 n x.0 a s f))

-- ---- a block that is given back

none_counted : {X : Type 0} (p : X → Bool) (xs : List X) → length xs ≤ prefix_len (λ x. not (p x)) xs
    → count_by p xs ≡ 0
none_counted p [] l = refl
none_counted p (x ∷ xs) l = go (p x) refl (none_counted p xs)
  where
    go : (b : Bool) → p x ≡ b → (length xs ≤ prefix_len (λ x. not (p x)) xs → count_by p xs ≡ 0)
        → count_by p (x ∷ xs) ≡ 0
    go true h rest = let l' = rw h at l in absurd (omega arith)
    go false h rest =
        let l' = rw h at l in
        let r = rest (omega arith) in
        count-cons p x xs ∙ rw (h, none) (omega (arith, r))

not_found : {X : Type 0} (p : X → Bool) (xs : List X) → position p xs ≡ None → count_by p xs ≡ 0
not_found p xs e = go (nat_lt (position_or_len p xs) (length xs)) refl
  where
    go : (b : Bool) → nat_lt (position_or_len p xs) (length xs) ≡ b → count_by p xs ≡ 0
    go true h = let no = rw h at e in absurd cc
    go false h = none_counted p xs (grind (arith, common_steps))

same_block : (a s x y : ℕ) (b : _) → is_block x y b ≡ true → is_block a s b ≡ is_block a s (block_at x y)
same_block a s x y b h =
    let at : b.at ≡ x = grind (arith, common_steps) in
    let size : b.size ≡ y = grind (arith, common_steps) in
    rw (at, size) refl

pub count-given : (m : DataSpace) (b : Span) (a s : ℕ) → 1 ≤ region_count m b.address.0 (rounded b.length.0)
    → region_count (given m b) a s + once (is_held a s b) ≡ region_count m a s
unfolding region_count
count-given m b a s some = go (position (is_block b.address.0 (rounded b.length.0)) m.instances) refl
  where
    go : (o : Option ℕ) → position (is_block b.address.0 (rounded b.length.0)) m.instances ≡ o
        → count_by (is_block a s) (given m b).instances + once (is_held a s b) ≡ count_by (is_block a s) m.instances
    go None f = let no = not_found (is_block b.address.0 (rounded b.length.0)) m.instances f in absurd (omega arith)
    go (Some i) f =
        let d = block_at 0 0 in
        let p = position-Some (is_block b.address.0 (rounded b.length.0)) m.instances i d f in
        let same = same_block a s b.address.0 (rounded b.length.0) (get_or m.instances i d) p.1 in
        let r = count-remove (is_block a s) m.instances i d p.0 in
        rw f (ap (λ t. count_by (is_block a s) (remove m.instances i) + once t) (sym same) ∙ r)

self_held : (b : Span) → is_held b.address.0 (rounded b.length.0) b ≡ true
self_held b = grind (arith, common_steps)

pub count-given_all : (m : DataSpace) (bs : List Span) (rest : ℕ → ℕ → ℕ)
    → ((a s : ℕ) → region_count m a s ≡ count_by (is_held a s) bs + rest a s)
    → (a s : ℕ) → region_count (given_all m bs) a s ≡ rest a s
count-given_all m [] rest h a s = h a s ∙ omega arith
count-given_all m (b ∷ bs) rest h a s =
    count-given_all (given m b) bs rest (λ x y. let g = count-given m b x y here in
    let cons = count-cons (is_held x y) b bs in omega (arith, g, cons, h x y)) a s
  where
    here : 1 ≤ region_count m b.address.0 (rounded b.length.0)
    here =
        let cons = count-cons (is_held b.address.0 (rounded b.length.0)) b bs in
        let self : once (is_held b.address.0 (rounded b.length.0) b) ≡ 1 = rw (self_held b) one in
        omega (arith, cons, self, h b.address.0 (rounded b.length.0))

-- ---- the blocks of live instances

abbrev Entries : Type 0
Entries = List (Option Instance)

pub live_count : (Span → Bool) → Entries → ℕ
live_count p es = sum_by (λ e. count_by p (blocks_of e)) es

pub count-live : (p : Span → Bool) (es : Entries) → count_by p (live_blocks es) ≡ live_count p es
unfolding live_count
count-live p [] = refl
count-live p (e ∷ es) =
    count-append p (blocks_of e) (live_blocks es)
    ∙ ap (λ n. count_by p (blocks_of e) + n) (count-live p es)
    ∙ sym (sum_by-cons (λ (x : Option Instance). count_by p (blocks_of x)) e es)

pub live-cons : (p : Span → Bool) (e : Option Instance) (es : Entries)
    → live_count p (e ∷ es) ≡ count_by p (blocks_of e) + live_count p es
unfolding live_count
live-cons p e es = sum_by-cons (λ (x : Option Instance). count_by p (blocks_of x)) e es

pub live-push : (p : Span → Bool) (es : Entries) (e : Option Instance)
    → live_count p (es ++ e ∷ []) ≡ live_count p es + count_by p (blocks_of e)
unfolding live_count
live-push p es e =
    sum_by-append (λ (x : Option Instance). count_by p (blocks_of x)) es (e ∷ []) ∙ omega arith

pub live-set : (p : Span → Bool) (es : Entries) (k : ℕ) (e : Option Instance) → k < length es
    → live_count p (set es k e) + count_by p (blocks_of (get_or es k None))
    ≡ live_count p es + count_by p (blocks_of e)
unfolding live_count
live-set p es k e l = sum_by-set (λ (x : Option Instance). count_by p (blocks_of x)) es k e None l

-- a live instance has a number
pub live_within : (es : Entries) (k : ℕ) (i : Instance) → get_or es k None ≡ Some i → k < length es
live_within [] zero i e = absurd cc
live_within [] (suc k) i e = absurd cc
live_within (x ∷ es) zero i e = omega arith
live_within (x ∷ es) (suc k) i e = let l = live_within es k i e in omega arith

pub live-with_blocks : (p : Span → Bool) (ph : Phandle) (es : Entries) (bs : List Span)
    → length bs ≡ count_by (is_open ph) es
    → live_count p (with_blocks ph es bs) ≡ live_count p es + count_by p bs
live-with_blocks p ph [] [] l = omega arith
live-with_blocks p ph [] (b ∷ bs) l = absurd (omega arith)
live-with_blocks p ph (e ∷ es) [] l = omega arith
live-with_blocks p ph (e ∷ es) (b ∷ bs) l =
    go (is_open ph e) refl (live-with_blocks p ph es bs) (live-with_blocks p ph es (b ∷ bs))
  where
    more : (e : Option Instance) → is_open ph e ≡ true
        → count_by p (blocks_of (with_block e b)) ≡ count_by p (blocks_of e) + once (p b)
    more None h = absurd cc
    more (Some i) h =
        let a = count-append p (i.arguments ∷ i.slots) (b ∷ []) in
        let c = count-cons p b [] in
        omega (arith, a, c)

    go : (c : Bool) → is_open ph e ≡ c
        → (length bs ≡ count_by (is_open ph) es
        → live_count p (with_blocks ph es bs) ≡ live_count p es + count_by p bs)
        → (suc (length bs) ≡ count_by (is_open ph) es
        → live_count p (with_blocks ph es (b ∷ bs)) ≡ live_count p es + count_by p (b ∷ bs))
        → live_count p (with_blocks ph (e ∷ es) (b ∷ bs)) ≡ live_count p (e ∷ es) + count_by p (b ∷ bs)
    go true c with_b without =
        let n = counted ph e es c in
        let rest = with_b (omega (arith, l, n)) in
        let m = more e c in
        let head = live-cons p (with_block e b) (with_blocks ph es bs) in
        let old = live-cons p e es in
        let block = count-cons p b bs in
        rw c (omega (arith, rest, m, head, old, block))
    go false c with_b without =
        let n = not_counted ph e es c in
        let rest = without (omega (arith, l, n)) in
        let head = live-cons p e (with_blocks ph es (b ∷ bs)) in
        let old = live-cons p e es in
        rw c (omega (arith, rest, head, old))
