-- A matching is read as its flat items, and exactly where it leaves nothing open: from element to element the pieces
-- have the items so far, and a branch waits on the control stack as often as it begins among them.
use Rattle.std.proofs.Common.{◌≡◌, ℕ, suc, ◌+◌, Bool, false, List, [], ◌∷◌, ◌++◌, length, Option, Some, None, refl, sym}
use Rattle.std.proofs.Common.{ap, ◌∙◌, subst, inl, arith, not, append_assoc, zero, eq-eqb}
use Rattle.std.specs.Prelude.{filter, slice_get, ◌==◌}
use Rattle.of_control.specs.declared.opener.Kind.{Kind}
use Rattle.of_control.specs.Openers.{is_orig}
use Rattle.of_control.specs.Element.{Back, Branch, Case, Do, Element, EndCase, EndOf, Leave, Loop, Mark, Misfit, Of}
use Rattle.of_control.specs.Element.{Plain, Resolve, Roll}
use Rattle.of_control.specs.Items.{DropSelector, EndArm, EnterLoop, JumpTo, RepeatLoop, TestArm, is_item, item_count}
use Rattle.of_control.specs.Items.{one_if, ExitLoop, Item}
use Rattle.of_control.specs.Body.{Body, IsScoped, items_of}
use Rattle.of_control.proofs.NamedBodies.{scoped-nameless, Fine, IsIn, Scoped, items-nameless, named_items, named_size}
use Rattle.of_control.specs.Matching.{IsDestFor, IsMatching, Opening, Partners, is_partner, open_ones, top_origs}
use Rattle.of_control.specs.Matching.{top_structure, IsAmong, opened_by}
use Rattle.of_control.specs.Targets.{Targets, flat_items, item_of}
use Rattle.of_control.specs.Reading.{Draft, NamedBody, NamedEnd, NamedJump, OpenCase, OpenChoice, OpenDo, OpenMark}
use Rattle.of_control.specs.Reading.{OpenOf, Part, PartlyRead, Piece, add_due, add_leave, all_parts, body_of, close_all}
use Rattle.of_control.specs.Reading.{close_case, close_counted, close_cycle, close_of, hoisted, innermost_do, joined}
use Rattle.of_control.specs.Reading.{open_of, put, put_all, read_so_far, BlockStart, Gathered, close_block}
use Rattle.of_control.specs.Reading.{close_branch, reading, to_branch, to_structure, with_last, with_structure}
use Rattle.of_control.specs.Reading.{NamedBlock, finished}
use Rattle.of_control.proofs.MatchingLemmas.{Desc-open, among-get, among-resolved, open-next, Desc}
use Rattle.of_control.proofs.Pieces.{EndHere, Fine-joined, Frame, Good, Keeps, Scoped-joined, cases, fine_at, frames}
use Rattle.of_control.proofs.Pieces.{labels, named_items-joined, named_size-joined, nil_append, piece_count}
use Rattle.of_control.proofs.Pieces.{piece_items, sub_none, sub_refl, to_structure-keeps, case_in, case_of-frames}
use Rattle.of_control.proofs.Pieces.{case_stack, do_in, do_of-frames, do_stack, frame_of, frame_pending, frames-closed}
use Rattle.of_control.proofs.Pieces.{frames-resolve, keep_all, pending_is, stack_frames, structure_top, IsStructure}
use Rattle.of_control.proofs.Pieces.{times, begins, waits, waits-is, waits-taken, waits-below, waits-closed}
use Rattle.of_control.proofs.Pieces.{waits-closed_below, waits-top, do_there, hoists, inside_hoisted, GatheredIf}
use Rattle.of_control.proofs.Pieces.{to_branch-keeps}
use Rattle.of_control.proofs.TargetLemmas.{AreTargets, Sets}
use Rattle.of_control.specs.declared.opener.Kind.TheVariants.{DoSys, CaseSys, Dest, OfSys}

-- the pieces have the structures of the stack, and each branch begins among them as often as it waits on the stack or
-- is due, with so many structures open since
pub record Shaped {A : Type 0} (due : List ℕ) (os : List Opening) (d : List (Piece A)) : Type 0 where
  pub framed : frames d ≡ stack_frames os
  pub top : (b : ℕ) → begins 0 b d ≡ waits 0 b os + times b due
  pub below : (k b : ℕ) → begins (suc k) b d ≡ waits (suc k) b os

-- and they are the flat items
pub record Agreeing {A : Type 0} (T : Targets) (es : List (Element A)) (m : Partners) (due : List ℕ)
    (d : List (Piece A)) : Type 0 where
  pub listed : piece_items T d ≡ flat_items T es m
  pub counted : piece_count d ≡ item_count es
  pub good : Good T d
  pub shaped : Shaped due (open_ones es m) d

abbrev pub AgreeingDraft : {A : Type 0} → Targets → List (Element A) → Partners → List ℕ → Draft A → Type 0
AgreeingDraft T es m due None = ⊥
AgreeingDraft T es m due (Some d) = Agreeing T es m due d

-- ---- the open structures from element to element

module _ {A : Type 0} where
  -- a part is no structure
  part_shaped :
      {due : List ℕ} {os : List Opening} {d : List (Piece A)} {p : NamedBody A} → Shaped due os d →
      Shaped due os (Part p ∷ d)
  part_shaped s = record { framed = s.framed; top = s.top; below = s.below }

  -- an open structure hides what begins before it
  begins_open :
      (x : Piece A) (d : List (Piece A)) → IsStructure x →
      ((b : ℕ) → begins 0 b (x ∷ d) ≡ 0) × ((k b : ℕ) → begins (suc k) b (x ∷ d) ≡ begins k b d)
  begins_open (Part p) d h = absurd h
  begins_open (BlockStart b) d h = absurd h
  begins_open _ d h = (λ b. refl, λ k b. refl)

  -- at each level as many begin as wait
  level : (os : List Opening) (d : List (Piece A)) → Shaped [] os d → (k b : ℕ) → begins k b d ≡ waits k b os
  level os d s zero b = omega (arith, s.top b)
  level os d s (suc k) b = s.below k b

  -- a structure is opened
  pushed :
      {x : Opening} {os : List Opening} {y : Piece A} {d : List (Piece A)} → is_orig x.kind ≡ false → IsStructure y →
      frames (y ∷ d) ≡ frame_of x.kind x.at ++ frames d → Shaped [] os d → Shaped [] (x ∷ os) (y ∷ d)
  pushed {x = x} {os = os} {y = y} {d = d} k i f s =
      let o = begins_open y d i in
      record {
        framed = f ∙ ap (λ l. frame_of x.kind x.at ++ l) s.framed;
        top = λ b. let w = waits-is false 0 b x os k in omega (arith, o.0 b, w);
        below = λ j b. o.1 j b ∙ level os d s j b ∙ sym (waits-is false (suc j) b x os k);
      }

  -- other pieces after what was gathered back to
  regathered :
      {T : Targets} {os : List Opening} {d start new : List (Piece A)} {p : NamedBody A} → Keeps T d [] p start →
      frames new ≡ frames start → ((b : ℕ) → begins 0 b new ≡ begins 0 b start) →
      ((k b : ℕ) → begins (suc k) b new ≡ begins (suc k) b start) → Shaped [] os d → Shaped [] os new
  regathered k f i j s =
      record {
        framed = f ∙ sym k.framed ∙ s.framed;
        top = λ b. omega (arith, i b, k.top b, s.top b);
        below = λ n b. j n b ∙ sym (k.below n b) ∙ s.below n b;
      }

-- the piece opens structure n, of this kind
abbrev IsOpenerOf : {A : Type 0} → Kind → ℕ → Piece A → Type 0
IsOpenerOf (Dest p) n (OpenMark c) = c ≡ n
IsOpenerOf DoSys n (OpenDo q c) = c ≡ n
IsOpenerOf CaseSys n (OpenCase c) = c ≡ n
IsOpenerOf CaseSys n (OpenChoice c) = c ≡ n
IsOpenerOf OfSys n (OpenOf o c) = o ≡ n
IsOpenerOf _ _ _ = ⊥

-- a structure on top has the kind and the number of the stack's
opener_is :
    {A : Type 0} → (k : Kind) (n : ℕ) (fs : List Frame) (x : Piece A) (d : List (Piece A)) → IsStructure x →
    is_orig k ≡ false → frames (x ∷ d) ≡ frame_of k n ++ fs → IsOpenerOf k n x × (frames d ≡ fs)
opener_is k n fs x d i o e = grind (arith, frames)

-- a structure leaves a frame
no_frame : (k : Kind) (n : ℕ) (fs : List Frame) → is_orig k ≡ false → [] ≡ frame_of k n ++ fs → ⊥
no_frame k n fs o e = grind (arith)

-- where x is closed
abbrev without : Opening → List Opening → List Opening
without x os = filter (λ y. not (is_partner (Some x) y)) os

-- the structure that a closer finds, with what was gathered back to it
record Finds {A : Type 0} (T : Targets) (os : List Opening) (d : List (Piece A)) (x : Opening) (bs : List ℕ)
    (p : NamedBody A) (from : Piece A) (before : List (Piece A)) : Type 0 where
  pub keeps : Keeps T d bs p (from ∷ before)
  pub opener : IsOpenerOf x.kind x.at from
  pub shaped : Shaped [] (without x os) (hoisted bs before)

module _ {A : Type 0} (T : Targets) (os : List Opening) (d : List (Piece A)) (x : Opening) (ds : Desc os)
    (s : Shaped [] os d) (np : is_orig x.kind ≡ false) where
  -- what was gathered is what the closer finds
  finds :
      (bs : List ℕ) (p : NamedBody A) (from : Piece A) (before : List (Piece A)) → top_structure os ≡ Some x →
      Keeps T d bs p (from ∷ before) → IsStructure from → Finds T os d x bs p from before
  finds bs p from before st k i =
      let f = opener_is x.kind x.at (stack_frames (without x os)) from before i np
      (sym k.framed ∙ s.framed ∙ frames-closed os x ds st) in
      let h = hoists T bs before in
      let o = begins_open from before i in
      record {
        keeps = k;
        opener = f.0;
        shaped = record {
          framed = h.framed ∙ f.1;
          top = λ b. let w = waits-closed x os ds st b in
              omega (arith, h.top b, k.top b, k.below 0 b, o.0 b, o.1 0 b, s.top b, s.below 0 b, w);
          below = λ j b. h.below j b ∙ sym (o.1 (suc j) b) ∙ sym (k.below (suc j) b) ∙ s.below (suc j) b
              ∙ sym (waits-closed_below x os ds st j b);
        };
      }

  -- what is done with the innermost structure
  with_found :
      (G : Draft A → Type 0) (f : List ℕ → NamedBody A → Piece A → List (Piece A) → Draft A) (o : Option (Gathered A)) →
      top_structure os ≡ Some x → GatheredIf T d IsStructure (frames d ≡ []) o →
      ((bs : List ℕ) (p : NamedBody A) (from : Piece A) (before : List (Piece A)) → Finds T os d x bs p from before →
      G (f bs p from before)) → G (with_structure f o)
  with_found G f None st k by =
      absurd (no_frame x.kind x.at _ np (sym k ∙ s.framed ∙ frames-closed os x ds st))
  with_found G f (Some g) st k by = by _ _ _ _ (finds g.blocks g.inside g.from g.before st k.0 k.1)

  -- and with one that is on top, in which no Block begins
  with_top :
      (G : Draft A → Type 0) (f : List ℕ → NamedBody A → Piece A → List (Piece A) → Draft A) → Good T d →
      slice_get os 0 ≡ Some x →
      ((p : NamedBody A) (from : Piece A) (before : List (Piece A)) → Finds T os d x [] p from before →
      G (f [] p from before)) → G (with_structure f (to_structure d))
  with_top G f good top by =
      with_found G f (to_structure d) (structure_top os x top np) (to_structure-keeps T d good) each
    where
      each : (bs : List ℕ) (p : NamedBody A) (from : Piece A) (before : List (Piece A)) →
          Finds T os d x bs p from before → G (f bs p from before)
      each [] p from before g = by p from before g
      each (b ∷ bs) p from before g =
          let k = g.keeps in
          let one : one_if (b == b) ≡ 1 = ap one_if (eq-eqb b b refl) in
          absurd (omega (arith, one, k.top b, s.top b, waits-top os x top np b))

-- what a backward branch finds is a mark
mark_opener :
    {A : Type 0} → (t : Option ℕ) (k : Kind) (n : ℕ) (x : Piece A) → IsDestFor t k → IsOpenerOf k n x →
    IsOpenerOf (Dest None) n x
mark_opener t k n x h i = grind (arith)

-- and no branch
mark_kind : (t : Option ℕ) (k : Kind) → IsDestFor t k → is_orig k ≡ false
mark_kind t k h = grind (arith)

-- resolves and rolls are read otherwise
abbrev IsUsual : {A : Type 0} → Element A → Type 0
IsUsual (Resolve p) = ⊥
IsUsual (Roll n) = ⊥
IsUsual _ = Unit {0}

-- the items of a part between its first and its last
enclosed :
    {A : Type 0} → (xs ys : List (Item A)) {zs : List (Item A)} (i j : Item A) → zs ≡ (xs ++ i ∷ []) ++ ys →
    xs ++ (i ∷ (ys ++ j ∷ [])) ≡ zs ++ j ∷ []
enclosed xs ys i j e = grind (arith, append_assoc)

-- a branch that is added is once more in the list
times-add : (a b : ℕ) (cs : List ℕ) → times b (add_due a cs) ≡ one_if (b == a) + times b cs
times-add a b [] = refl
times-add a b (c ∷ cs) = grind (arith, times-add a b cs)

module _ {A : Type 0} (T : Targets) (es : List (Element A)) (m : Partners) where
  -- ---- branches that are due

  -- the Block of branch b
  block_made :
      (b : ℕ) (due : List ℕ) (d : List (Piece A)) (bs : List ℕ) (p : NamedBody A) (before : List (Piece A)) →
      Agreeing T es m (b ∷ due) d → T.to b ≡ item_count es → Keeps T d bs p (BlockStart b ∷ before) →
      Agreeing T es m due (Part (NamedBlock b p NamedEnd) ∷ hoisted bs before)
  block_made b due d bs p before h to k =
      let o = hoists T bs before in
      let i = inside_hoisted T bs b before p k.fine k.scoped in
      let s = h.shaped in
      record {
        listed = ap (λ l. l ++ (named_items T p ++ [])) o.listed
            ∙ ap (λ l. piece_items T before ++ l) (sym (nil_append (named_items T p))) ∙ sym k.listed ∙ h.listed;
        counted = omega (arith, o.counted, k.counted, h.counted);
        good = (o.good k.good, (omega (arith, to, o.counted, k.counted, h.counted), i.0, tt), (i.1, tt));
        shaped = record {
          framed = o.framed ∙ sym k.framed ∙ s.framed;
          top = λ a. omega (arith, o.top a, k.top a, s.top a);
          below = λ j a. o.below j a ∙ sym (k.below j a) ∙ s.below j a;
        };
      }

  -- the branch is there, as it is due
  close_one :
      (b : ℕ) (due : List ℕ) (d : List (Piece A)) (o : Option (Gathered A)) → Agreeing T es m (b ∷ due) d →
      T.to b ≡ item_count es → GatheredIf T d (λ x. x ≡ BlockStart b) (begins 0 b d ≡ 0) o →
      AgreeingDraft T es m due (close_block b o)
  close_one b due d None h to k =
      let one : one_if (b == b) ≡ 1 = ap one_if (eq-eqb b b refl) in
      let s = h.shaped in
      omega (arith, k, s.top b, one)
  close_one b due d (Some g) h to k =
      block_made b due d g.blocks g.inside g.before h to
      (subst (λ x. Keeps T d g.blocks g.inside (x ∷ g.before)) k.1 k.0)

  -- the Blocks of all branches that are due are ended
  flushed :
      (due : List ℕ) (o : Draft A) → EndHere T (item_count es) due → AgreeingDraft T es m due o →
      AgreeingDraft T es m [] (close_all due o)
  flushed [] o e h = h
  flushed (b ∷ due) None e h = absurd h
  flushed (b ∷ due) (Some d) e h =
      flushed due (close_branch b (Some d)) e.1
      (close_one b due d (to_branch b d) h e.0 (to_branch-keeps T b d h.good))

  -- ---- one more element

  -- the next element's pieces, where it leaves these openers
  made :
      {e : Element A} {o : Option Opening} {a b : List ℕ} {d new : List (Piece A)} {os : List Opening} →
      Agreeing T es m a d → IsMatching (e ∷ es) (o ∷ m) →
      filter (λ y. not (is_partner o y)) (open_ones es m) ≡ os →
      piece_items T new ≡ piece_items T d ++ item_of T es (open_ones es m) e o →
      piece_count new ≡ piece_count d + one_if (is_item e) → Good T new →
      Shaped b (opened_by (length es) e o ++ os) new → Agreeing T (e ∷ es) (o ∷ m) b new
  made {e = e} {o = o} {b = b} {new = new} h is left l c g s =
      record {
        listed = l ∙ ap (λ i. i ++ item_of T es (open_ones es m) e o) h.listed;
        counted = c ∙ ap (λ n. n + one_if (is_item e)) h.counted;
        good = g;
        shaped = subst (λ l. Shaped b l new)
            (ap (λ l. opened_by (length es) e o ++ l) (sym left) ∙ sym (open-next e es o m is)) s;
      }

  module _ (d : List (Piece A)) (h : Agreeing T es m [] d) where
    -- a `leave` has a loop round it
    leave_next :
        (o : Option ℕ) → innermost_do d ≡ o → IsMatching (Leave ∷ es) (None ∷ m) →
        AgreeingDraft T (Leave ∷ es) (None ∷ m) [] (add_leave o d)
    leave_next None e is =
        let s = h.shaped in
        do_there (open_ones es m) is.1.0 is.1.1 is.1.2 (ap do_in (sym s.framed) ∙ sym (do_of-frames d) ∙ e)
    leave_next (Some x) e is =
        let s = h.shaped in
        let i = do_stack (length es) (open_ones es m) x (ap do_in (sym s.framed) ∙ sym (do_of-frames d) ∙ e) in
        made h is (keep_all (open_ones es m)) (ap (λ n. piece_items T d ++ ExitLoop (T.to n) ∷ []) (sym i))
        (omega arith) (h.good, tt, (e, tt)) (part_shaped s)

    -- a backward branch ends a Cycle
    cycle_next :
        (z : Bool) (t : Option ℕ) (x : Opening) (bs : List ℕ) (p : NamedBody A) (from : Piece A)
        (before : List (Piece A)) → IsMatching (Back z t ∷ es) (Some x ∷ m) → IsOpenerOf (Dest None) x.at from →
        Finds T (open_ones es m) d x bs p from before →
        AgreeingDraft T (Back z t ∷ es) (Some x ∷ m) [] (close_cycle z bs p from before)
    cycle_next z t x bs p (OpenMark c) before is at g =
        let j : NamedBody A = NamedJump z c NamedEnd in
        let k = g.keeps in
        let o = hoists T bs before in
        let i = inside_hoisted T bs c before p k.fine k.scoped in
        let ls = c ∷ labels (hoisted bs before) in
        made h is refl
        (ap (λ q. q ++ (named_items T (joined p j) ++ [])) o.listed
        ∙ ap (λ q. piece_items T before ++ q) (sym (nil_append (named_items T (joined p j))) ∙ named_items-joined T p j)
        ∙ sym (append_assoc (piece_items T before) (named_items T p) (JumpTo z (T.to c) ∷ []))
        ∙ ap (λ q. q ++ JumpTo z (T.to c) ∷ []) (sym k.listed)
        ∙ ap (λ a. piece_items T d ++ JumpTo z (T.to a) ∷ []) at)
        (omega (arith, o.counted, k.counted, named_size-joined p j)) (
          o.good k.good.0,
          (k.good.1 ∙ sym o.counted, Fine-joined T (piece_count (hoisted bs before)) p j i.0 tt, tt),
          (Scoped-joined ls (innermost_do (hoisted bs before)) [] p j i.1 (inl refl, tt), tt),
        )
        (part_shaped g.shaped)
    cycle_next z t x bs p _ before is at g = absurd at

    -- a `loop` ends a Counted
    counted_next :
        (l : Bool) (x : Opening) (p : NamedBody A) (from : Piece A) (before : List (Piece A)) →
        IsMatching (Loop l ∷ es) (Some x ∷ m) → T.to x.at ≡ suc (item_count es) → IsOpenerOf DoSys x.at from →
        Finds T (open_ones es m) d x [] p from before →
        AgreeingDraft T (Loop l ∷ es) (Some x ∷ m) [] (close_counted l [] p from before)
    counted_next l x p (OpenDo q a) before is to at g =
        let k = g.keeps in
        made h is refl
        (enclosed (piece_items T before) (named_items T p) (EnterLoop q (T.to a)) (RepeatLoop l (T.back a)) k.listed
        ∙ ap (λ w. piece_items T d ++ RepeatLoop l (T.back w) ∷ []) at)
        (omega (arith, k.counted)) (
          k.good.0,
          (omega (arith, ap T.to at, to, h.counted, k.counted), k.good.1, k.fine, tt),
          (k.scoped [] [] (sub_refl []) (sub_refl []) (sub_refl []), tt),
        )
        (part_shaped g.shaped)
    counted_next l x p _ before is to at g = absurd at

    -- an `of` begins the Choice, unless one before it did
    of_next :
        (x : Opening) (p : NamedBody A) (from : Piece A) (before : List (Piece A)) → IsMatching (Of ∷ es) (None ∷ m) →
        IsOpenerOf CaseSys x.at from → Finds T (open_ones es m) d x [] p from before →
        AgreeingDraft T (Of ∷ es) (None ∷ m) [] (open_of (length es) [] p from before)
    of_next x p (OpenCase c) before is at g =
        let k = g.keeps in
        made h is (keep_all (open_ones es m)) (ap (λ l. l ++ TestArm (T.to (length es)) ∷ []) (sym k.listed))
        (omega (arith, k.counted)) ((k.good, k.fine, k.scoped _ _ (sub_none _) (sub_refl _) (sub_none _)), refl)
        (pushed refl tt refl (regathered k refl (λ b. refl) (λ j b. refl) h.shaped))
    of_next x p (OpenChoice c) before is at g =
        let k = g.keeps in
        made h is (keep_all (open_ones es m)) (ap (λ l. l ++ TestArm (T.to (length es)) ∷ []) (sym k.listed))
        (omega (arith, k.counted)) ((k.good, k.fine, k.scoped _ _ (sub_refl []) (sub_refl []) (sub_refl _)), refl)
        (pushed refl tt refl (regathered k refl (λ b. refl) (λ j b. refl) h.shaped))
    of_next x p _ before is at g = absurd at

    -- an `endof` ends an Arm
    endof_next :
        (x : Opening) (p : NamedBody A) (from : Piece A) (before : List (Piece A)) →
        IsMatching (EndOf ∷ es) (Some x ∷ m) → T.to x.at ≡ suc (item_count es) → IsOpenerOf OfSys x.at from →
        Finds T (open_ones es m) d x [] p from before →
        AgreeingDraft T (EndOf ∷ es) (Some x ∷ m) [] (close_of [] p from before)
    endof_next x p (OpenOf o c) before is to at g =
        let k = g.keeps in
        let s = h.shaped in
        let pass = case_stack (length es) (open_ones es m) c
        (ap case_in (sym s.framed ∙ k.framed) ∙ case_of-frames before c k.good.1) in
        made h is refl
        (enclosed (piece_items T before) (named_items T p) (TestArm (T.to o)) (EndArm (T.to c)) k.listed
        ∙ ap (λ w. piece_items T d ++ EndArm (T.to w) ∷ []) (sym pass))
        (omega (arith, k.counted)) (
          k.good.0,
          (omega (arith, ap T.to at, to, h.counted, k.counted), k.fine, tt),
          (subst (λ l. IsIn l c) (sym k.good.1) (inl refl), k.scoped _ _ (sub_refl []) (sub_refl []) (sub_refl []), tt),
        )
        (part_shaped g.shaped)
    endof_next x p _ before is to at g = absurd at

    -- an `endcase` ends a Choice, empty where there was no `of`
    endcase_next :
        (x : Opening) (p : NamedBody A) (from : Piece A) (before : List (Piece A)) →
        IsMatching (EndCase ∷ es) (Some x ∷ m) → T.to x.at ≡ suc (item_count es) → IsOpenerOf CaseSys x.at from →
        Finds T (open_ones es m) d x [] p from before →
        AgreeingDraft T (EndCase ∷ es) (Some x ∷ m) [] (close_case [] p from before)
    endcase_next x p (OpenCase c) before is to at g =
        let k = g.keeps in
        made h is refl (ap (λ w. w ++ DropSelector ∷ []) (sym k.listed)) (omega (arith, k.counted)) (
          (k.good, k.fine, k.scoped _ _ (sub_none _) (sub_refl _) (sub_none _)),
          (omega (arith, ap T.to at, to, h.counted, k.counted), tt, tt),
          (tt, tt),
        )
        (part_shaped (part_shaped g.shaped))
    endcase_next x p (OpenChoice c) before is to at g =
        let k = g.keeps in
        made h is refl
        (sym (append_assoc (piece_items T before) (named_items T p) (DropSelector ∷ []))
        ∙ ap (λ w. w ++ DropSelector ∷ []) (sym k.listed))
        (omega (arith, k.counted)) (
          k.good,
          (omega (arith, ap T.to at, to, h.counted, k.counted), k.fine, tt),
          (k.scoped _ _ (sub_refl []) (sub_refl []) (sub_refl _), tt),
        )
        (part_shaped g.shaped)
    endcase_next x p _ before is to at g = absurd at

    -- what is done with the structure x on top
    on_top :
        (e : Element A) (o : Option Opening) (x : Opening) (k : Kind)
        (f : List ℕ → NamedBody A → Piece A → List (Piece A) → Draft A) → slice_get (open_ones es m) 0 ≡ Some x →
        x.kind ≡ k → is_orig k ≡ false →
        ((p : NamedBody A) (from : Piece A) (before : List (Piece A)) → IsOpenerOf k x.at from →
        Finds T (open_ones es m) d x [] p from before → AgreeingDraft T (e ∷ es) (o ∷ m) [] (f [] p from before)) →
        AgreeingDraft T (e ∷ es) (o ∷ m) [] (with_structure f (to_structure d))
    on_top e o x k f top is np by =
        with_top T (open_ones es m) d x (Desc-open es m) h.shaped (ap is_orig is ∙ np)
        (AgreeingDraft T (e ∷ es) (o ∷ m) []) f h.good top
        (λ p from before g. by p from before (subst (λ k. IsOpenerOf k x.at from) is g.opener) g)

    -- any element that is no resolve or roll
    put_next :
        (e : Element A) (o : Option Opening) → IsMatching (e ∷ es) (o ∷ m) → Sets T es e o → IsUsual e →
        AgreeingDraft T (e ∷ es) (o ∷ m) [] (put (length es) e d)
    put_next (Plain k) None is to u =
        made h is (keep_all (open_ones es m)) refl (omega arith) (h.good, tt, tt) (part_shaped h.shaped)
    put_next (Branch z t) None is to u =
        let s = h.shaped in
        made h is (keep_all (open_ones es m)) refl (omega arith) (h.good, tt, (inl refl, tt))
        (record { framed = s.framed; top = λ b. omega (arith, s.top b); below = s.below })
    put_next (Mark p) None is to u =
        made h is (keep_all (open_ones es m)) (nil_append (piece_items T d)) (omega arith)
        (h.good, to ∙ sym h.counted) (pushed refl tt refl h.shaped)
    put_next (Do q) None is to u =
        made h is (keep_all (open_ones es m)) refl (omega arith) (h.good, to ∙ ap suc (sym h.counted))
        (pushed refl tt refl h.shaped)
    put_next Case None is to u =
        made h is (keep_all (open_ones es m)) (nil_append (piece_items T d)) (omega arith) h.good
        (pushed refl tt refl h.shaped)
    put_next Leave None is to u = leave_next (innermost_do d) refl is
    put_next Of None is to u =
        on_top Of None is.1.0 CaseSys (open_of (length es)) is.1.1 is.1.2 refl
        (λ p from before at g. of_next is.1.0 p from before is at g)
    put_next (Back z t) (Some x) is to u =
        with_found T (open_ones es m) d x (Desc-open es m) h.shaped (mark_kind t x.kind is.1.1)
        (AgreeingDraft T (Back z t ∷ es) (Some x ∷ m) []) (close_cycle z) (to_structure d) is.1.0
        (to_structure-keeps T d h.good)
        (λ bs p from before g. cycle_next z t x bs p from before is (mark_opener t x.kind x.at from is.1.1 g.opener) g)
    put_next (Loop l) (Some x) is to u =
        on_top (Loop l) (Some x) x DoSys (close_counted l) is.1.0 is.1.1 refl
        (λ p from before at g. counted_next l x p from before is to at g)
    put_next EndOf (Some x) is to u =
        on_top EndOf (Some x) x OfSys close_of is.1.0 is.1.1 refl
        (λ p from before at g. endof_next x p from before is to at g)
    put_next EndCase (Some x) is to u =
        on_top EndCase (Some x) x CaseSys close_case is.1.0 is.1.1 refl
        (λ p from before at g. endcase_next x p from before is to at g)
    put_next (Resolve p) o is to u = absurd u
    put_next (Roll n) o is to u = absurd u
    put_next (Misfit k) None is to u = absurd is.1
    put_next (Misfit k) (Some x) is to u = absurd is.1
    put_next _ _ is to u = absurd is.1

  -- a resolve makes its branch due
  resolve_next :
      (p : Option ℕ) (x : Opening) (due : List ℕ) (o : Draft A) → AgreeingDraft T es m due o →
      IsMatching (Resolve p ∷ es) (Some x ∷ m) → AgreeingDraft T (Resolve p ∷ es) (Some x ∷ m) (add_due x.at due) o
  resolve_next p x due None h is = absurd h
  resolve_next p x due (Some d) h is =
      made h is refl (nil_append (piece_items T d)) (omega arith) h.good
      (resolved (open_ones es m) (Desc-open es m) (among-resolved p (top_origs (open_ones es m)) x is.1) h.shaped)
    where
      resolved :
          (os : List Opening) → Desc os → IsAmong (top_origs os) x → Shaped due os d →
          Shaped (add_due x.at due) (without x os) d
      resolved os ds a s = grind (arith, frames-resolve, waits-taken, times-add, waits-below)

  -- a roll changes no piece
  roll_next :
      (n : ℕ) (x : Opening) (due : List ℕ) (o : Draft A) → AgreeingDraft T es m due o →
      IsMatching (Roll n ∷ es) (Some x ∷ m) → AgreeingDraft T (Roll n ∷ es) (Some x ∷ m) due o
  roll_next n x due None h is = absurd h
  roll_next n x due (Some d) h is =
      made h is refl (nil_append (piece_items T d)) (omega arith) h.good
      (rolled (length es) (open_ones es m) (Desc-open es m) (among-get (top_origs (open_ones es m)) n x is.1) h.shaped)
    where
      rolled :
          (a : ℕ) (os : List Opening) → Desc os → IsAmong (top_origs os) x → Shaped due os d →
          Shaped due (record { age = a; at = x.at; kind = x.kind } ∷ without x os) d
      rolled a os ds i s =
          grind (arith, pending_is, frames-resolve, stack_frames, frame_pending, waits-taken, waits-is, waits-below)

-- ---- the whole list

pub record AgreeingRead {A : Type 0} (T : Targets) (es : List (Element A)) (m : Partners)
    (r : PartlyRead A) : Type 0 where
  pub due : EndHere T (item_count es) r.due
  pub pieces : AgreeingDraft T es m r.due r.pieces

-- what ends here still does
add_due-ends : (T : Targets) (n b : ℕ) (bs : List ℕ) → T.to b ≡ n → EndHere T n bs → EndHere T n (add_due b bs)
add_due-ends T n b [] e h = (e, tt)
add_due-ends T n b (c ∷ cs) e h = grind (arith, add_due-ends T n b cs e h.1)

-- branches that are due are ended before the element
usual_next :
    {A : Type 0} → (T : Targets) (e : Element A) (es : List (Element A)) (o : Option Opening) (m : Partners)
    (r : PartlyRead A) → AgreeingRead T es m r → IsMatching (e ∷ es) (o ∷ m) → Sets T es e o → IsUsual e →
    AgreeingRead T (e ∷ es) (o ∷ m) (record { due = []; pieces = put_all (length es) e (close_all r.due r.pieces) })
usual_next T e es o m r h is to u = grind (arith, flushed, put_next)

-- all elements
read_so_far-keeps :
    {A : Type 0} → (T : Targets) (es : List (Element A)) (m : Partners) → IsMatching es m → AreTargets T es m →
    AgreeingRead T es m (read_so_far es m)
read_so_far-keeps T [] [] is to = grind (arith)
read_so_far-keeps T (e ∷ es) (o ∷ m) is to =
    grind (arith, read_so_far-keeps T es m is.0 to.0, add_due-ends, resolve_next, roll_next, usual_next)
read_so_far-keeps T _ _ is to = absurd is

-- all branches are ended
ended :
    {A : Type 0} → (T : Targets) (es : List (Element A)) (m : Partners) → IsMatching es m → AreTargets T es m →
    AgreeingDraft T es m [] (close_all (read_so_far es m).due (read_so_far es m).pieces)
ended T es m is to =
    let r = read_so_far-keeps T es m is to in
    flushed T es m (read_so_far es m).due (read_so_far es m).pieces r.due r.pieces

-- ---- the end: parts alone are left exactly where nothing is open

record Whole {A : Type 0} (T : Targets) (d : List (Piece A)) (q : NamedBody A) : Type 0 where
  pub listed : piece_items T d ≡ named_items T q
  pub counted : piece_count d ≡ named_size q
  pub fine : Fine T 0 q
  pub no_labels : labels d ≡ []
  pub no_do : innermost_do d ≡ None
  pub no_cases : cases d ≡ []
  pub scoped : Scoped [] None [] q
  pub framed : frames d ≡ []
  pub begun : (b : ℕ) → begins 0 b d ≡ 0

abbrev WholeIf : {A : Type 0} → Targets → List (Piece A) → Option (NamedBody A) → Type 0
WholeIf T d None = frames d ≡ [] → ((b : ℕ) → begins 0 b d ≡ 0) → ⊥
WholeIf T d (Some q) = Whole T d q

-- a part after a body
whole_part :
    {A : Type 0} → (T : Targets) (p : NamedBody A) (d : List (Piece A)) (o : Option (NamedBody A)) →
    Fine T (piece_count d) p → Scoped (labels d) (innermost_do d) (cases d) p → WholeIf T d o →
    WholeIf T (Part p ∷ d) (with_last p o)
whole_part T p d None f s h = h
whole_part T p d (Some q) f s h =
    grind (arith, named_items-joined, named_size-joined, Fine-joined, fine_at, Scoped-joined)

-- parts alone are a body, and there is one where nothing is open
all_parts-whole : {A : Type 0} → (T : Targets) (d : List (Piece A)) → Good T d → WholeIf T d (all_parts d)
all_parts-whole T [] g = grind (arith)
all_parts-whole T (Part p ∷ d) g = whole_part T p d (all_parts d) g.1 g.2 (all_parts-whole T d g.0)
all_parts-whole T (BlockStart c ∷ d) g =
    λ f h.
    let one : one_if (c == c) ≡ 1 = ap one_if (eq-eqb c c refl) in
    omega (arith, h c, one)
all_parts-whole T _ g = λ f h. cc

-- a stack with no structure and no branch is empty
nothing_open : (os : List Opening) → stack_frames os ≡ [] → ((b : ℕ) → waits 0 b os ≡ 0) → os ≡ []
nothing_open [] f w = refl
nothing_open (x ∷ os) f w = let h = w x.at in grind (arith, eq-eqb, waits-is)

-- what the body of a matching is
pub record Agrees {A : Type 0} (T : Targets) (es : List (Element A)) (m : Partners) (b : Body A) : Type 0 where
  pub listed : items_of b ≡ flat_items T es m
  pub scoped : IsScoped 0 false false b
  pub closed : open_ones es m ≡ []

abbrev AgreesIf : {A : Type 0} → Targets → List (Element A) → Partners → Option (Body A) → Type 0
AgreesIf T es m None = open_ones es m ≡ [] → ⊥
AgreesIf T es m (Some b) = Agrees T es m b

-- without names it has the flat items
agrees_named :
    {A : Type 0} → (T : Targets) (es : List (Element A)) (m : Partners) (d : List (Piece A))
    (o : Option (NamedBody A)) → Agreeing T es m [] d → WholeIf T d o → AgreesIf T es m (body_of o)
agrees_named T es m d None h w =
    let s = h.shaped in
    λ e. w (s.framed ∙ ap stack_frames e) (λ b. level (open_ones es m) d s 0 b ∙ ap (waits 0 b) e)
agrees_named T es m d (Some q) h w =
    let s = h.shaped in
    record {
      listed = items-nameless T q 0 [] [] None [] 0 0 refl tt tt w.fine w.scoped ∙ sym w.listed ∙ h.listed;
      scoped = scoped-nameless [] None [] q w.scoped;
      closed = nothing_open (open_ones es m) (sym s.framed ∙ w.framed)
          (λ b. sym (level (open_ones es m) d s 0 b) ∙ w.begun b);
    }

-- the same of what is left at the end
agrees_draft :
    {A : Type 0} → (T : Targets) (es : List (Element A)) (m : Partners) (o : Draft A) → AgreeingDraft T es m [] o →
    AgreesIf T es m (body_of (finished o))
agrees_draft T es m None h = absurd h
agrees_draft T es m (Some d) h = agrees_named T es m d (all_parts d) h (all_parts-whole T d h.good)

-- a matching is read exactly where it leaves nothing open, and then as its flat items
pub read_as :
    {A : Type 0} → (T : Targets) (es : List (Element A)) (m : Partners) → IsMatching es m → AreTargets T es m →
    AgreesIf T es m (reading es m)
read_as T es m is to = agrees_draft T es m _ (ended T es m is to)
