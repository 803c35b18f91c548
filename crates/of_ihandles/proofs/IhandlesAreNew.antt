-- The law `ihandles_are_new`.
use Rattle.std.proofs.Common.{◌≡◌, ◌≢◌, ℕ, zero, suc, ◌+◌, ◌-◌, ◌*◌}
use Rattle.std.proofs.Common.{◌/◌, ◌%◌, ◌&&◌, ◌<◌, ◌≤◌, inl, inr, Bool, true}
use Rattle.std.proofs.Common.{false}
use Rattle.std.proofs.Common.{List, [], ◌∷◌, ◌++◌, length, get_or, replicate, Option, Some, None, Result, Ok, Err}
use Rattle.std.proofs.Common.{◌⊎◌, refl, subst, sym}
use Rattle.std.proofs.Common.{ap, ◌∙◌, arith, nat_le, nat_lt, get_or-set_other, get_or-set_same}
use Rattle.std.specs.Prelude.{◌==◌, count_by, set}
use Rattle.std.proofs.lemmas.Bool.{cases_lt}
use Rattle.std.proofs.lemmas.Grind.{common_steps}
use Rattle.std.proofs.lemmas.List.{get_or_append_left, length-set, length_push}
use Rattle.of_cells.specs.declared.cells.Cell.{Cell}
use Rattle.of_memory.specs.DataSpace.{DataSpace, written}
use Rattle.of_nodes.specs.declared.phandles.Phandle.{Phandle}
use Rattle.of_nodes.specs.declared.properties.Span.{Span}
use Rattle.of_ihandles.specs.declared.instance_fault.InstanceFault.{InstanceFault}
use Rattle.of_ihandles.specs.declared.instances.Instance.{Instance}
use Rattle.of_ihandles.specs.declared.slots.Template.{Template}
use Rattle.of_ihandles.specs.Blocks.{all_begun, begun, blocks_taken, copy_taken, given, given_all}
use Rattle.of_ihandles.specs.Ihandles.{HasArguments, IhandlesAreNew, IsOpened, IsReleased, OthersStay, StaysOpen}
use Rattle.of_ihandles.specs.Instances.{release_left, released}
use Rattle.of_ihandles.specs.Instances.{arguments_at, arguments_by, arguments_left, arguments_set, closed, closed_at}
use Rattle.of_ihandles.specs.Instances.{closed_by, first_ihandle, found, ihandle_of, instance_at, is_open}
use Rattle.of_ihandles.specs.Instances.{lengths_of}
use Rattle.of_ihandles.specs.Instances.{most_instances, number_at, number_of, numbered, of_instance, opened}
use Rattle.of_ihandles.specs.Instances.{opened_at}
use Rattle.of_ihandles.specs.Instances.{opened_with, slotted, slotted_with, unit_of}
use Rattle.of_ihandles.specs.Instances.{with_block, with_blocks, zero_cell}
use Rattle.of_ihandles.specs.Slots.{size_of, slots_of, with_slot}
use Rattle.of_ihandles.specs.Table.{InstanceTable}
use Rattle.of_ihandles.proofs.OwnedByCalls.{left_is}
use Rattle.of_ihandles.proofs.SlotsAreOwn.{ihandle_is}

abbrev Entries : Type 0
Entries = List (Option Instance)

lt_true : (x y : ℕ) → x < y → nat_lt x y ≡ true
lt_true x y h = grind (arith, common_steps)

lt_false : (x y : ℕ) → y ≤ x → nat_lt x y ≡ false
lt_false x y h = grind (arith, common_steps)

eq_true : (x y : ℕ) → x ≡ y → (x == y) ≡ true
eq_true x y h = grind (arith, common_steps)

-- ---- numbers of ihandles

number_back : (count k : ℕ) → k < count → number_of count (ihandle_of k) ≡ Some k
number_back count k l =
    let d : first_ihandle + 4 * k - first_ihandle ≡ 4 * k = omega arith in
    let q : 4 * k / 4 ≡ k = omega arith in
    rw (
      lt_false (first_ihandle + 4 * k) first_ihandle (omega arith),
      d,
      eq_true (4 * k % 4) 0 (omega arith),
      q,
      lt_true k count l,
    ) refl

number_none : (count : ℕ) → number_of count (ihandle_of count) ≡ None
number_none count =
    let d : first_ihandle + 4 * count - first_ihandle ≡ 4 * count = omega arith in
    let q : 4 * count / 4 ≡ count = omega arith in
    rw (
      lt_false (first_ihandle + 4 * count) first_ihandle (omega arith),
      d,
      eq_true (4 * count % 4) 0 (omega arith),
      q,
      lt_false count count (omega arith),
    ) refl

test_same : (q n : ℕ) → q ≢ n → nat_lt q (suc n) ≡ nat_lt q n
test_same q n other =
    elim (cases_lt q n) [
      | inl l ↦ lt_true q (suc n) (omega (arith, l)) ∙ sym (lt_true q n l)
      | inr g ↦ lt_false q (suc n) (omega (arith, g, other)) ∙ sym (lt_false q n g)
    ]

-- one more opening changes the number of no other ihandle
number_more : (n : ℕ) (ih : Cell) → (ih.0 ≡ first_ihandle + 4 * n → ⊥) → number_of (suc n) ih ≡ number_of n ih
number_more n ih other = go (nat_lt ih.0 first_ihandle) refl
  where
    even : (b : Bool) → ((ih.0 - first_ihandle) % 4 == 0) ≡ b → first_ihandle ≤ ih.0
        → number_at (suc n) (ih.0 - first_ihandle) ≡ number_at n (ih.0 - first_ihandle)
    even false h l = rw h refl
    even true h l =
        let e : (ih.0 - first_ihandle) % 4 ≡ 0 = grind (arith, common_steps) in
        let differs : (ih.0 - first_ihandle) / 4 ≢ n = λ same. other (omega (arith, same, e, l)) in
        rw (h, test_same ((ih.0 - first_ihandle) / 4) n differs) refl

    go : (b : Bool) → nat_lt ih.0 first_ihandle ≡ b → number_of (suc n) ih ≡ number_of n ih
    go true h = rw h refl
    go false h =
        let l : first_ihandle ≤ ih.0 = grind (arith, common_steps) in
        rw h (even ((ih.0 - first_ihandle) % 4 == 0) refl l)

number_within : (count k : ℕ) (ih : Cell) → number_of count ih ≡ Some k → k < count
number_within count k ih e = go (nat_lt ih.0 first_ihandle) refl
  where
    at : (b : Bool) → ((ih.0 - first_ihandle) % 4 == 0 && nat_lt ((ih.0 - first_ihandle) / 4) count) ≡ b
        → number_at count (ih.0 - first_ihandle) ≡ Some k → k < count
    at false h f = let no = rw h at f in absurd cc
    at true h f =
        let f' = rw h at f in
        let same : (ih.0 - first_ihandle) / 4 ≡ k = cc in
        let less : (ih.0 - first_ihandle) / 4 < count = grind (arith, common_steps) in
        omega (arith, same, less)

    go : (b : Bool) → nat_lt ih.0 first_ihandle ≡ b → k < count
    go true h = let no = rw h at e in absurd cc
    go false h =
        let e' = rw h at e in
        at ((ih.0 - first_ihandle) % 4 == 0 && nat_lt ((ih.0 - first_ihandle) / 4) count) refl e'

-- ---- opening

pub push_last : (es : Entries) (x : Option Instance) → get_or (es ++ x ∷ []) (length es) None ≡ x
push_last [] x = refl
push_last (e ∷ es) x = push_last es x

pub found_new : (t : InstanceTable) (i : Instance)
    → found (record t { made = t.made ++ Some i ∷ [] }) (ihandle_of (length t.made)) ≡ Some i
found_new t i =
    let len : length (t.made ++ Some i ∷ []) ≡ suc (length t.made) = length_push t.made (Some i) ∙ omega arith in
    ap (λ n. numbered (record t { made = t.made ++ Some i ∷ [] }) (number_of n (ihandle_of (length t.made)))) len
    ∙ ap (numbered (record t { made = t.made ++ Some i ∷ [] }))
    (number_back (suc (length t.made)) (length t.made) (omega arith))
    ∙ push_last t.made (Some i)

opened_in : (t : InstanceTable) (ph : Phandle) (parent : Cell) (i : Instance) → i.«package» ≡ ph → i.parent ≡ parent
    → i.unit ≡ replicate 4 zero_cell
    → IsOpened t (record t { made = t.made ++ Some i ∷ [] }) ph parent (ihandle_of (length t.made))
opened_in t ph parent i p q r =
    record {
      handle = refl;
      count = length_push t.made (Some i) ∙ omega arith;
      before = ap (numbered t) (number_none (length t.made));
      «package» = ap (λ o. of_instance o (λ j. let a : Result Phandle InstanceFault = Ok j.«package» in a)) there
          ∙ ap (λ (x : Phandle). Ok x) p;
      above = ap (λ o. of_instance o (λ j. let a : Result Cell InstanceFault = Ok j.parent in a)) there
          ∙ ap (λ (x : Cell). Ok x) q;
      unit = ap (λ o. of_instance o (λ j. let a : Result (List Cell) InstanceFault = Ok j.unit in a)) there
          ∙ ap (λ (x : List Cell). Ok x) r;
      others = λ other differs. others other differs (number_of (length t.made) other) refl;
    }
  where
    len : length (t.made ++ Some i ∷ []) ≡ suc (length t.made)
    len = length_push t.made (Some i) ∙ omega arith

    there : found (record t { made = t.made ++ Some i ∷ [] }) (ihandle_of (length t.made)) ≡ Some i
    there = found_new t i

    kept : (o : Option ℕ) → ((k : ℕ) → o ≡ Some k → k < length t.made)
        → numbered (record t { made = t.made ++ Some i ∷ [] }) o ≡ numbered t o
    kept None h = refl
    kept (Some k) h = get_or_append_left t.made (Some i ∷ []) None k (h k refl)

    others : (other : Cell) → (other.0 ≡ first_ihandle + 4 * length t.made → ⊥) → (o : Option ℕ)
        → number_of (length t.made) other ≡ o
        → found (record t { made = t.made ++ Some i ∷ [] }) other ≡ found t other
    others other differs o e =
        ap (λ n. numbered (record t { made = t.made ++ Some i ∷ [] }) (number_of n other)) len
        ∙ ap (numbered (record t { made = t.made ++ Some i ∷ [] })) (number_more (length t.made) other differs)
        ∙ kept (number_of (length t.made) other) (λ k f. number_within (length t.made) k other f)

by_open : (t after : InstanceTable) (m left : DataSpace) (ph : Phandle) (parent ih : Cell) (arguments : List ℕ)
    → opened t m ph parent arguments ≡ Ok (ih, (after, left)) → IsOpened t after ph parent ih
by_open t after m left ph parent ih arguments e = go (nat_le most_instances (length t.made)) refl
  where
    with_list : (bs : List Span) (taken : DataSpace)
        → opened_at t taken ph parent arguments bs ≡ Ok (ih, (after, left)) → IsOpened t after ph parent ih
    with_list [] taken h = absurd cc
    with_list (b ∷ bs) taken h =
        let both : ◌≡◌ {A = Cell × (InstanceTable × DataSpace)} (
          ihandle_of (length t.made),
          (
            record t { made = t.made ++ Some (instance_at ph parent b bs) ∷ [] },
            begun (written taken b.address.0 arguments) bs (slots_of ph t.slots),
          ),
        ) (ih, (after, left)) = cc in
        let handle : ihandle_of (length t.made) ≡ ih = ap (λ (p : Cell × (InstanceTable × DataSpace)). p.0) both in
        let same : record t { made = t.made ++ Some (instance_at ph parent b bs) ∷ [] } ≡ after =
        ap (λ (p : Cell × (InstanceTable × DataSpace)). p.1.0) both in
        rw (← same, ← handle) (opened_in t ph parent (instance_at ph parent b bs) refl refl refl)

    taken : (r : Result (List Span × DataSpace) InstanceFault)
        → opened_with t ph parent arguments r ≡ Ok (ih, (after, left)) → IsOpened t after ph parent ih
    taken (Err fault) h = absurd cc
    taken (Ok x) h = with_list x.0 x.1 h

    go : (b : Bool) → nat_le most_instances (length t.made) ≡ b → IsOpened t after ph parent ih
    go true h = let no = rw h at e in absurd cc
    go false h =
        let e' = rw h at e in
        taken (blocks_taken m (lengths_of (record { 0 = length arguments }) (slots_of ph t.slots))) e'

-- ---- one instance changes

-- another entry at a number
others_stay : (t : InstanceTable) (k : ℕ) (e : Option Instance) (ih : Cell) → number_of (length t.made) ih ≡ Some k
    → OthersStay t (record t { made = set t.made k e }) ih
others_stay t k e ih f other differs =
    ap (λ n. numbered (record t { made = set t.made k e }) (number_of n other)) (length-set t.made k e)
    ∙ go (number_of (length t.made) other) refl
  where
    go : (o : Option ℕ) → number_of (length t.made) other ≡ o
        → numbered (record t { made = set t.made k e }) o ≡ numbered t o
    go None g = refl
    go (Some l) g =
        let a = ihandle_is (length t.made) k ih f in
        let b = ihandle_is (length t.made) l other g in
        let apart : l ≢ k = λ same. differs (omega (arith, a, b, same)) in
        get_or-set_other t.made k l e None apart

set_there : (t : InstanceTable) (k : ℕ) (e : Option Instance) (ih : Cell) → number_of (length t.made) ih ≡ Some k
    → found (record t { made = set t.made k e }) ih ≡ e
set_there t k e ih f =
    ap (λ n. numbered (record t { made = set t.made k e }) (number_of n ih)) (length-set t.made k e)
    ∙ ap (numbered (record t { made = set t.made k e })) f
    ∙ get_or-set_same t.made k e None (number_within (length t.made) k ih f)

by_close : (t after : InstanceTable) (m left : DataSpace) (ih : Cell)
    → closed t m ih ≡ Ok (tt, (after, left)) → IsReleased t after ih
by_close t after m left ih e = by_number (number_of (length t.made) ih) refl e
  where
    at : (k : ℕ) → number_of (length t.made) ih ≡ Some k → (o : Option Instance) → get_or t.made k None ≡ o
        → closed_at t m k o ≡ Ok (tt, (after, left)) → IsReleased t after ih
    at k f None g h = absurd cc
    at k f (Some i) g h =
        let same = left_is tt tt (record t { made = set t.made k None }) after
        (given_all (given m i.arguments) i.slots) left h in
        let was : found t ih ≡ Some i = ap (numbered t) f ∙ g in
        rw (← same.0) (record {
          count = length-set t.made k None;
          was = λ none. absurd cc;
          gone = set_there t k None ih f;
          others = others_stay t k None ih f;
        })

    by_number : (o : Option ℕ) → number_of (length t.made) ih ≡ o → closed_by t m o ≡ Ok (tt, (after, left))
        → IsReleased t after ih
    by_number None f h = absurd cc
    by_number (Some k) f h = at k f (get_or t.made k None) refl h

-- what releasing leaves of the instances, if there is the one
by_release : (t after : InstanceTable) (m left : DataSpace) (ih : Cell) → released t m ih ≡ (after, left)
    → IsReleased t after ih ⊎ ((found t ih ≡ None) × (after ≡ t) × (left ≡ m))
by_release t after m left ih e = go (closed t m ih) refl e
  where
    at : (k : ℕ) (i : Option Instance) (fault : InstanceFault) → closed_at t m k i ≡ Err fault → i ≡ None
    at k None fault f = refl
    at k (Some i) fault f = cc

    missing : (o : Option ℕ) (fault : InstanceFault) → closed_by t m o ≡ Err fault → numbered t o ≡ None
    missing None fault f = refl
    missing (Some k) fault f = at k (get_or t.made k None) fault f

    go : (r : Result (Unit {0} × (InstanceTable × DataSpace)) InstanceFault) → closed t m ih ≡ r
        → release_left t m r ≡ (after, left)
        → IsReleased t after ih ⊎ ((found t ih ≡ None) × (after ≡ t) × (left ≡ m))
    go (Err fault) f h =
        inr (
          missing (number_of (length t.made) ih) fault f,
          sym (ap (λ (p : InstanceTable × DataSpace). p.0) h),
          sym (ap (λ (p : InstanceTable × DataSpace). p.1) h),
        )
    go (Ok x) f h =
        let same : x.1.0 ≡ after = ap (λ (p : InstanceTable × DataSpace). p.0) h in
        inl (subst (λ a. IsReleased t a ih) same (by_close t x.1.0 m x.1.1 ih f))

by_arguments :
    (t after : InstanceTable) (m left : DataSpace) (ih : Cell) (arguments : List ℕ) (unit : List Cell)
    → arguments_set t m ih arguments unit ≡ Ok (tt, (after, left)) → HasArguments t after ih unit
by_arguments t after m left ih arguments unit e = by_number (number_of (length t.made) ih) refl e
  where
    copied : (k : ℕ) (i : Instance) → number_of (length t.made) ih ≡ Some k → get_or t.made k None ≡ Some i
        → (r : Result (Span × DataSpace) InstanceFault) → arguments_left t k i unit r ≡ Ok (tt, (after, left))
        → HasArguments t after ih unit
    copied k i f g (Err fault) h = absurd cc
    copied k i f g (Ok x) h =
        let other : Instance = record i { arguments = x.0; unit = unit_of unit } in
        let same = left_is tt tt (record t { made = set t.made k (Some other) }) after
        (given x.1 i.arguments) left h in
        let was : found t ih ≡ Some i = ap (numbered t) f ∙ g in
        let now = set_there t k (Some other) ih f in
        rw (← same.0) (record {
          count = length-set t.made k (Some other);
          «package» = rw (now, was) refl;
          above = rw (now, was) refl;
          new = rw now refl;
          others = others_stay t k (Some other) ih f;
        })

    at : (k : ℕ) → number_of (length t.made) ih ≡ Some k → (o : Option Instance) → get_or t.made k None ≡ o
        → arguments_at t m arguments unit k o ≡ Ok (tt, (after, left)) → HasArguments t after ih unit
    at k f None g h = absurd cc
    at k f (Some i) g h = copied k i f g (copy_taken m arguments) h

    by_number : (o : Option ℕ) → number_of (length t.made) ih ≡ o
        → arguments_by t m arguments unit o ≡ Ok (tt, (after, left)) → HasArguments t after ih unit
    by_number None f h = absurd cc
    by_number (Some k) f h = at k f (get_or t.made k None) refl h

-- ---- a new slot

with_blocks_length : (ph : Phandle) (es : Entries) (bs : List Span) → length (with_blocks ph es bs) ≡ length es
with_blocks_length ph [] bs = refl
with_blocks_length ph (e ∷ es) [] = refl
with_blocks_length ph (e ∷ es) (b ∷ bs) =
    go (is_open ph e) refl (with_blocks_length ph es bs) (with_blocks_length ph es (b ∷ bs))
  where
    go : (c : Bool) → is_open ph e ≡ c → length (with_blocks ph es bs) ≡ length es
        → length (with_blocks ph es (b ∷ bs)) ≡ length es
        → length (with_blocks ph (e ∷ es) (b ∷ bs)) ≡ suc (length es)
    go true h one all = rw h (ap (λ n. suc n) one)
    go false h one all = rw h (ap (λ n. suc n) all)

-- what doesn't depend on the blocks of slots is the same
same_but_slots : {A : Type 0} (f : Instance → Result A InstanceFault)
    → ((i : Instance) (bs : List Span) → f (record i { slots = bs }) ≡ f i) → (ph : Phandle) (es : Entries)
    → (bs : List Span) (k : ℕ)
    → of_instance (get_or (with_blocks ph es bs) k None) f ≡ of_instance (get_or es k None) f
same_but_slots f blind ph [] bs k = refl
same_but_slots f blind ph (e ∷ es) [] k = refl
same_but_slots f blind ph (e ∷ es) (b ∷ bs) k =
    go (is_open ph e) refl k (same_but_slots f blind ph es bs) (same_but_slots f blind ph es (b ∷ bs))
  where
    here : (x : Option Instance) → is_open ph x ≡ true → of_instance (with_block x b) f ≡ of_instance x f
    here None h = absurd cc
    here (Some i) h = blind i (i.slots ++ b ∷ [])

    go : (c : Bool) → is_open ph e ≡ c → (k : ℕ)
        → ((l : ℕ) → of_instance (get_or (with_blocks ph es bs) l None) f ≡ of_instance (get_or es l None) f)
        → ((l : ℕ) → of_instance (get_or (with_blocks ph es (b ∷ bs)) l None) f ≡ of_instance (get_or es l None) f)
        → of_instance (get_or (with_blocks ph (e ∷ es) (b ∷ bs)) k None) f ≡ of_instance (get_or (e ∷ es) k None) f
    go true h zero one all = rw h (here e h)
    go true h (suc l) one all = rw h (one l)
    go false h zero one all = rw h refl
    go false h (suc l) one all = rw h (all l)

found_but_slots : {A : Type 0} (f : Instance → Result A InstanceFault)
    → ((i : Instance) (bs : List Span) → f (record i { slots = bs }) ≡ f i) → (ph : Phandle) (t after : InstanceTable)
    → (bs : List Span) → after.made ≡ with_blocks ph t.made bs → (ih : Cell)
    → of_instance (found after ih) f ≡ of_instance (found t ih) f
found_but_slots f blind ph t after bs e ih =
    ap (λ n. of_instance (numbered after (number_of n ih)) f) (ap length e ∙ with_blocks_length ph t.made bs)
    ∙ go (number_of (length t.made) ih)
  where
    go : (o : Option ℕ) → of_instance (numbered after o) f ≡ of_instance (numbered t o) f
    go None = refl
    go (Some k) =
        ap (λ es. of_instance (get_or es k None) f) e ∙ same_but_slots f blind ph t.made bs k

by_slot : (t after : InstanceTable) (m left : DataSpace) (ph : Phandle) (template : Template) (n : ℕ)
    → slotted t m ph template ≡ Ok (n, (after, left)) → StaysOpen t after
by_slot t after m left ph template n e =
    taken (blocks_taken m (replicate (count_by (is_open ph) t.made) (size_of template))) e
  where
    taken : (r : Result (List Span × DataSpace) InstanceFault)
        → slotted_with t ph template r ≡ Ok (n, (after, left)) → StaysOpen t after
    taken (Err fault) h = absurd cc
    taken (Ok x) h =
        let same = left_is (length t.slots) n
        (record { made = with_blocks ph t.made x.0; slots = with_slot t.slots ph template }) after
        (all_begun x.1 x.0 template) left h in
        let made : after.made ≡ with_blocks ph t.made x.0 = ap (λ (u : InstanceTable). u.made) (sym same.0) in
        record {
          count = ap length made ∙ with_blocks_length ph t.made x.0;
          «package» = found_but_slots (λ i. Ok i.«package») (λ i bs. refl) ph t after x.0 made;
          above = found_but_slots (λ i. Ok i.parent) (λ i bs. refl) ph t after x.0 made;
          unit = found_but_slots (λ i. Ok i.unit) (λ i bs. refl) ph t after x.0 made;
          arguments = found_but_slots (λ i. Ok i.arguments) (λ i bs. refl) ph t after x.0 made;
        }

pub ihandles_are_new : IhandlesAreNew
ihandles_are_new = record {
  by_open = by_open;
  by_close = by_close;
  by_release = by_release;
  by_slot = by_slot;
  by_arguments = by_arguments;
}
