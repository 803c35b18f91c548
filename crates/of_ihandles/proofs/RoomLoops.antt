-- Rooms in the live instances of a package: made, taken back, and filled.
use Rattle.std.proofs.Common.{◌≡◌, ℕ, zero, suc, ◌+◌, ◌-◌, ◌<◌, ◌≤◌, Bool, true, false, List, [], ◌∷◌, ◌++◌, length}
use Rattle.std.proofs.Common.{get_or, take, drop, map, Option, Some, None, Result, Ok, Err, refl, sym, ap, ◌∙◌, arith}
use Rattle.std.specs.Prelude.{count_by, set, replicate}
use Rattle.std.proofs.lemmas.List.{length-replicate, length_push, set-get_or}
use Rattle.std.proofs.lemmas.List.Sums.{sum_by-cons}
use Rattle.std.proofs.Common.{cond}
use Rattle.std.specs.List.{slice_get}
use Rattle.of_cells.specs.declared.cells.Cell.{Cell}
use Rattle.of_memory.specs.BlockCalls.{instances_taken}
use Rattle.of_memory.specs.DataSpace.{DataSpace}
use Rattle.of_memory.specs.declared.fault.MemFault.{MemFault}
use Rattle.of_nodes.specs.declared.phandles.Phandle.{Phandle}
use Rattle.of_nodes.specs.declared.properties.Span.{Span}
use Rattle.of_ihandles.specs.declared.instances.Instance.{Instance}
use Rattle.of_ihandles.specs.Blocks.{all_begun, all_left, blocks_taken, spans}
use Rattle.of_ihandles.specs.Instances.{is_open, slotted, with_block, with_blocks}
use Rattle.of_ihandles.specs.Slots.{size_of, with_slot}
use Rattle.of_ihandles.specs.Table.{InstanceTable}
use Rattle.of_ihandles.specs.declared.slots.Slot.{Slot}
use Rattle.of_ihandles.specs.declared.slots.Template.{Template}
use Rattle.of_ihandles.specs.Rooms.{changed, filled, fills, nowhere, roomless, roomy}
use Rattle.of_ihandles.proofs.BlocksTaken.{First, first_taken}

abbrev Entries : Type 0
Entries = List (Option Instance)

-- ---- a change of one after another

pub changed_none : (f : Option Instance → Option Instance) (es : Entries) → changed f es 0 ≡ es
unfolding changed
changed_none f es = refl

pub changed_step : (f : Option Instance → Option Instance) (es : Entries) (i : ℕ) (x : Option Instance) → i < length es
    → x ≡ get_or (changed f es i) i x → set (changed f es i) i (f x) ≡ changed f es (i + 1)
unfolding changed
changed_step f [] i x l h = absurd (omega arith)
changed_step f (e ∷ es) zero x l h = ap (λ y. f y ∷ es) h
changed_step f (e ∷ es) (suc i) x l h =
    let next : suc i + 1 ≡ suc (i + 1) = omega arith in
    rw next (ap (λ ys. f e ∷ ys) (changed_step f es i x (omega arith) h))

-- an entry that was put back as it was, or with the change
pub put_back : (es : Entries) (i : ℕ) (x y : Option Instance) → x ≡ get_or es i x → y ≡ x → set es i y ≡ es
put_back es i x y h e = rw (e, h) (set-get_or es i x)

pub put_changed : (f : Option Instance → Option Instance) (es made : Entries) (i : ℕ) (x y : Option Instance)
    → i < length es → made ≡ changed f es i → x ≡ get_or made i x → y ≡ f x → set made i y ≡ changed f es (i + 1)
put_changed f es made i x y l m h e =
    let h' = rw m at h in
    rw (m, e) (changed_step f es i x l h')

pub changed_length : (f : Option Instance → Option Instance) (es : Entries) (i : ℕ)
    → length (changed f es i) ≡ length es
unfolding changed
changed_length f [] zero = refl
changed_length f [] (suc i) = refl
changed_length f (e ∷ es) zero = refl
changed_length f (e ∷ es) (suc i) = ap (λ n. suc n) (changed_length f es i)

pub changed_all : (f : Option Instance → Option Instance) (es : Entries) (i : ℕ) → length es ≤ i
    → changed f es i ≡ map f es
unfolding changed
changed_all f [] zero l = refl
changed_all f [] (suc i) l = refl
changed_all f (e ∷ es) zero l = absurd (omega arith)
changed_all f (e ∷ es) (suc i) l = ap (λ ys. f e ∷ ys) (changed_all f es i (omega arith))

-- ---- one room

dropped_last : (bs : List Span) (b : Span) → take (length (bs ++ b ∷ []) - 1) (bs ++ b ∷ []) ≡ bs
dropped_last [] b = refl
dropped_last (c ∷ bs) b =
    let n : length (bs ++ b ∷ []) ≡ length bs + 1 = length_push bs b in
    let m : suc (length (bs ++ b ∷ [])) - 1 ≡ suc (length (bs ++ b ∷ []) - 1) = omega (arith, n) in
    rw m (ap (λ ys. c ∷ ys) (dropped_last bs b))

set_at_last : (bs : List Span) (b c : Span) → set (bs ++ b ∷ []) (length (bs ++ b ∷ []) - 1) c ≡ bs ++ c ∷ []
set_at_last [] b c = refl
set_at_last (d ∷ bs) b c =
    let n : length (bs ++ b ∷ []) ≡ length bs + 1 = length_push bs b in
    let m : suc (length (bs ++ b ∷ [])) - 1 ≡ suc (length (bs ++ b ∷ []) - 1) = omega (arith, n) in
    rw m (ap (λ ys. d ∷ ys) (set_at_last bs b c))

pub room_dropped : (ph : Phandle) (e : Option Instance) → roomless ph (roomy ph e) ≡ e
room_dropped ph None = refl
room_dropped ph (Some i) = go (is_open ph (Some i)) refl
  where
    go : (b : Bool) → is_open ph (Some i) ≡ b → roomless ph (roomy ph (Some i)) ≡ Some i
    go true h = rw (h, h) (ap (λ bs. Some (record i { slots = bs })) (dropped_last i.slots nowhere))
    go false h = rw (h, h) refl

pub room_filled : (ph : Phandle) (e : Option Instance) (b : Span) → is_open ph e ≡ true
    → filled (roomy ph e) b ≡ with_block e b
room_filled ph None b h = absurd cc
room_filled ph (Some i) b h = rw h (ap (λ bs. Some (record i { slots = bs })) (set_at_last i.slots nowhere b))

pub still_open : (ph : Phandle) (e : Option Instance) → is_open ph (roomy ph e) ≡ is_open ph e
still_open ph None = refl
still_open ph (Some i) = go (is_open ph (Some i)) refl
  where
    go : (b : Bool) → is_open ph (Some i) ≡ b → is_open ph (roomy ph (Some i)) ≡ is_open ph (Some i)
    go true h = rw h (rw h refl)
    go false h = rw h (rw h refl)

-- ---- rooms taken back

dropped_next : (bs : List Span) (n : ℕ) (b : Span) → slice_get bs n ≡ Some b → drop n bs ≡ b ∷ drop (n + 1) bs
dropped_next [] n b e = absurd cc
dropped_next (c ∷ bs) zero b e = let same : c ≡ b = cc in ap (λ z. z ∷ bs) same
dropped_next (c ∷ bs) (suc n) b e =
    let next : suc n + 1 ≡ suc (n + 1) = omega arith in rw next (dropped_next bs n b e)

dropped_none : (bs : List Span) (n : ℕ) → slice_get bs n ≡ None → drop n bs ≡ []
dropped_none [] zero e = refl
dropped_none [] (suc n) e = refl
dropped_none (c ∷ bs) zero e = absurd cc
dropped_none (c ∷ bs) (suc n) e = dropped_none bs n e

pub rooms_undone : (ph : Phandle) (es : Entries) (i : ℕ) → i ≤ length es
    → changed (roomless ph) (changed (roomy ph) es i) i ≡ es
unfolding changed
rooms_undone ph es zero l = refl
rooms_undone ph [] (suc i) l = absurd (omega arith)
rooms_undone ph (e ∷ es) (suc i) l = rw (room_dropped ph e) (ap (λ ys. e ∷ ys) (rooms_undone ph es i (omega arith)))

pub all_undone : (ph : Phandle) (es : Entries) (n : ℕ) → n ≡ length (map (roomy ph) es)
    → changed (roomless ph) (map (roomy ph) es) n ≡ es
unfolding changed
all_undone ph [] n e = rw e refl
all_undone ph (x ∷ es) n e =
    rw (e, room_dropped ph x) (ap (λ ys. x ∷ ys) (all_undone ph es (length (map (roomy ph) es)) refl))

-- ---- rooms filled

pub filling_left : Phandle → Entries → ℕ → List Span → Entries
filling_left ph es i bs = take i es ++ fills ph (drop i es) bs

fills_none : (ph : Phandle) (es : Entries) → fills ph es [] ≡ es
fills_none ph [] = refl
fills_none ph (e ∷ es) = refl

fills_closed : (ph : Phandle) (e : Option Instance) (es : Entries) (bs : List Span) → is_open ph e ≡ false
    → fills ph (e ∷ es) bs ≡ e ∷ fills ph es bs
fills_closed ph e es [] h = rw (fills_none ph es) refl
fills_closed ph e es (b ∷ bs) h = rw h refl

pub fills_skip : (ph : Phandle) (es : Entries) (i : ℕ) (x : Option Instance) (bs : List Span) → i < length es
    → x ≡ get_or es i x → is_open ph x ≡ false → filling_left ph es (i + 1) bs ≡ filling_left ph es i bs
unfolding filling_left
fills_skip ph [] i x bs l h c = absurd (omega arith)
fills_skip ph (e ∷ es) zero x bs l h c = let c' = rw h at c in sym (fills_closed ph e es bs c')
fills_skip ph (e ∷ es) (suc i) x bs l h c =
    let next : suc i + 1 ≡ suc (i + 1) = omega arith in
    rw next (ap (λ ys. e ∷ ys) (fills_skip ph es i x bs (omega arith) h c))

pub fills_put : (ph : Phandle) (es : Entries) (i : ℕ) (x : Option Instance) (b : Span) (bs : List Span)
    → i < length es → x ≡ get_or es i x → is_open ph x ≡ true
    → filling_left ph (set es i (filled x b)) (i + 1) bs ≡ filling_left ph es i (b ∷ bs)
unfolding filling_left
fills_put ph [] i x b bs l h c = absurd (omega arith)
fills_put ph (e ∷ es) zero x b bs l h c = let c' = rw h at c in rw (c', h) refl
fills_put ph (e ∷ es) (suc i) x b bs l h c =
    let next : suc i + 1 ≡ suc (i + 1) = omega arith in
    rw next (ap (λ ys. e ∷ ys) (fills_put ph es i x b bs (omega arith) h c))

pub fills_stop : (ph : Phandle) (es : Entries) (i : ℕ) (bs : List Span) → length bs < 1 → filling_left ph es i bs ≡ es
unfolding filling_left
fills_stop ph es i (b ∷ bs) l = absurd (omega arith)
fills_stop ph [] zero [] l = refl
fills_stop ph [] (suc i) [] l = refl
fills_stop ph (e ∷ es) zero [] l = refl
fills_stop ph (e ∷ es) (suc i) [] l = ap (λ ys. e ∷ ys) (fills_stop ph es i [] l)

-- one entry, read twice
pub read_twice : (es : Entries) (i : ℕ) (x y : Option Instance) → i < length es → x ≡ get_or es i x
    → y ≡ get_or es i y → x ≡ y
read_twice [] i x y l h k = absurd (omega arith)
read_twice (e ∷ es) zero x y l h k = h ∙ sym k
read_twice (e ∷ es) (suc i) x y l h k = read_twice es i x y (omega arith) h k

-- the block that comes next goes to a live instance
pub fills_next : (ph : Phandle) (es : Entries) (i n : ℕ) (x y : Option Instance) (b : Span) (bs : List Span)
    → i < length es → x ≡ get_or es i x → is_open ph x ≡ true → y ≡ filled x b → slice_get bs n ≡ Some b
    → filling_left ph (set es i y) (i + 1) (drop (n + 1) bs) ≡ filling_left ph es i (drop n bs)
fills_next ph es i n x y b bs l h c e f =
    rw (e, dropped_next bs n b f) (fills_put ph es i x b (drop (n + 1) bs) l h c)

-- where none is left, nothing changes
pub fills_out : (ph : Phandle) (es : Entries) (i n : ℕ) (bs : List Span) → slice_get bs n ≡ None
    → filling_left ph es i (drop n bs) ≡ es
fills_out ph es i n bs e = rw (dropped_none bs n e) (fills_stop ph es i [] (omega arith))

pub fills_end : (ph : Phandle) (es : Entries) (i : ℕ) (bs : List Span) → length es ≤ i → filling_left ph es i bs ≡ es
unfolding filling_left
fills_end ph [] zero bs l = refl
fills_end ph [] (suc i) bs l = refl
fills_end ph (e ∷ es) zero bs l = absurd (omega arith)
fills_end ph (e ∷ es) (suc i) bs l = ap (λ ys. e ∷ ys) (fills_end ph es i bs (omega arith))

pub fills_begin : (ph : Phandle) (es : Entries) (bs : List Span) → filling_left ph es 0 bs ≡ fills ph es bs
unfolding filling_left
fills_begin ph es bs = refl

roomy_open : (ph : Phandle) (e : Option Instance) → is_open ph e ≡ false → roomy ph e ≡ e
roomy_open ph e h = rw h refl

pub counted : (ph : Phandle) (e : Option Instance) (es : Entries) → is_open ph e ≡ true
    → count_by (is_open ph) (e ∷ es) ≡ suc (count_by (is_open ph) es)
counted ph e es c =
    let one : cond (is_open ph e) 1 0 ≡ 1 = rw c refl in
    sum_by-cons (λ (x : Option Instance). cond (is_open ph x) 1 0) e es
    ∙ ap (λ k. k + count_by (is_open ph) es) one ∙ omega arith

pub not_counted : (ph : Phandle) (e : Option Instance) (es : Entries) → is_open ph e ≡ false
    → count_by (is_open ph) (e ∷ es) ≡ count_by (is_open ph) es
not_counted ph e es c =
    let none : cond (is_open ph e) 1 0 ≡ 0 = rw c refl in
    sum_by-cons (λ (x : Option Instance). cond (is_open ph x) 1 0) e es
    ∙ ap (λ k. k + count_by (is_open ph) es) none ∙ omega arith

some_counted : (ph : Phandle) (e : Option Instance) (es : Entries) → is_open ph e ≡ true
    → count_by (is_open ph) (e ∷ es) ≡ 0 → ⊥
some_counted ph e es c h = let n = counted ph e es c in omega (arith, n, h)

-- where no instance is live, there are no rooms
roomy_none : (ph : Phandle) (es : Entries) → count_by (is_open ph) es ≡ 0 → map (roomy ph) es ≡ es
roomy_none ph [] h = refl
roomy_none ph (e ∷ es) h = go (is_open ph e) refl (roomy_none ph es)
  where
    go : (b : Bool) → is_open ph e ≡ b → (count_by (is_open ph) es ≡ 0 → map (roomy ph) es ≡ es)
        → map (roomy ph) (e ∷ es) ≡ e ∷ es
    go true c rest = absurd (some_counted ph e es c h)
    go false c rest =
        rw (roomy_open ph e c) (ap (λ ys. e ∷ ys) (rest (sym (not_counted ph e es c) ∙ h)))

pub with_blocks_none : (ph : Phandle) (es : Entries) → with_blocks ph es [] ≡ es
with_blocks_none ph [] = refl
with_blocks_none ph (e ∷ es) = refl

-- rooms that are filled are blocks more
pub rooms_filled : (ph : Phandle) (es : Entries) (bs : List Span) → length bs ≡ count_by (is_open ph) es
    → fills ph (map (roomy ph) es) bs ≡ with_blocks ph es bs
rooms_filled ph [] bs l = refl
rooms_filled ph (e ∷ es) [] l =
    rw (roomy_none ph (e ∷ es) (sym l)) refl
rooms_filled ph (e ∷ es) (b ∷ bs) l =
    go (is_open ph e) refl (rooms_filled ph es bs) (rooms_filled ph es (b ∷ bs))
  where
    go : (c : Bool) → is_open ph e ≡ c
        → (length bs ≡ count_by (is_open ph) es → fills ph (map (roomy ph) es) bs ≡ with_blocks ph es bs)
        → (suc (length bs) ≡ count_by (is_open ph) es
        → fills ph (map (roomy ph) es) (b ∷ bs) ≡ with_blocks ph es (b ∷ bs))
        → fills ph (map (roomy ph) (e ∷ es)) (b ∷ bs) ≡ with_blocks ph (e ∷ es) (b ∷ bs)
    go true c with_b without =
        let n = counted ph e es c in
        rw (still_open ph e, room_filled ph e b c, c) (ap (λ ys. with_block e b ∷ ys) (with_b (omega (arith, l, n))))
    go false c with_b without =
        rw (still_open ph e, c) (ap (λ ys. e ∷ ys) (without (l ∙ not_counted ph e es c)))

-- as many blocks are taken as there are lengths
spans_length : (as' ns : List Cell) → length as' ≡ length ns → length (spans as' ns) ≡ length ns
spans_length [] [] l = refl
spans_length [] (n ∷ ns) l = absurd (omega arith)
spans_length (a ∷ as') [] l = absurd (omega arith)
spans_length (a ∷ as') (n ∷ ns) l = ap (λ k. suc k) (spans_length as' ns (omega arith))

pub addresses_length : (m after : DataSpace) (ns as' : List Cell) → instances_taken m ns ≡ Ok (as', after)
    → length as' ≡ length ns
addresses_length m after [] as' e =
    let both : ◌≡◌ {A = List Cell × DataSpace} ([], m) (as', after) = cc in
    ap (λ (p : List Cell × DataSpace). length p.0) (sym both)
addresses_length m after (n ∷ ns) as' e =
    let s : First m after n ns as' = first_taken m after n ns as' e in
    let rest = addresses_length s.left after ns s.others s.rest in
    rw s.all (ap (λ k. suc k) rest)

pub taken_length : (m after : DataSpace) (ns : List Cell) (bs : List Span) → blocks_taken m ns ≡ Ok (bs, after)
    → length bs ≡ length ns
taken_length m after ns bs e = go (instances_taken m ns) refl e
  where
    go : (r : Result (List Cell × DataSpace) MemFault) → instances_taken m ns ≡ r → all_left ns r ≡ Ok (bs, after)
        → length bs ≡ length ns
    go (Err fault) f h = absurd cc
    go (Ok x) f h =
        let both : ◌≡◌ {A = List Span × DataSpace} (spans x.0 ns, x.1) (bs, after) = cc in
        ap (λ (p : List Span × DataSpace). length p.0) (sym both)
        ∙ spans_length x.0 ns (addresses_length m x.1 ns x.0 f)

-- so many blocks are taken as there are rooms
pub all_filled : (m after : DataSpace) (n : Cell) (ph : Phandle) (es : Entries) (bs : List Span)
    → blocks_taken m (replicate (count_by (is_open ph) es) n) ≡ Ok (bs, after)
    → fills ph (map (roomy ph) es) bs ≡ with_blocks ph es bs
all_filled m after n ph es bs e =
    rooms_filled ph es bs (taken_length m after (replicate (count_by (is_open ph) es) n) bs e
    ∙ length-replicate (count_by (is_open ph) es) n)

-- what a new slot leaves
pub slot_made : (t : InstanceTable) (m taken after : DataSpace) (ph : Phandle) (template : Template) (n : ℕ)
    (lengths : List Cell) (rooms made : Entries) (bs : List Span) (slots : List Slot)
    → n ≡ length t.slots
    → lengths ≡ replicate (count_by (is_open ph) t.made) (size_of template)
    → rooms ≡ map (roomy ph) t.made
    → blocks_taken m lengths ≡ Ok (bs, taken)
    → after ≡ all_begun taken bs template
    → made ≡ fills ph rooms bs
    → slots ≡ with_slot t.slots ph template
    → slotted t m ph template ≡ Ok (n, (record { made = made; slots = slots }, after))
slot_made t m taken after ph template n lengths rooms made bs slots count all roomed took begins fill one =
    let took' = rw all at took in
    let filled' = all_filled m taken (size_of template) ph t.made bs took' in
    let same : made ≡ with_blocks ph t.made bs = fill ∙ ap (λ es. fills ph es bs) roomed ∙ filled' in
    rw (took', count, same, begins, one) refl

pub ruleset dropping = (changed_step, changed_none, changed_length)

pub ruleset adding = (changed_step, changed_none, changed_length, changed_all, rooms_undone)

pub ruleset filling = (fills_skip, fills_put, fills_stop, fills_end, fills_begin)
