-- Which instances are released at the end of a load.
use Rattle.std.proofs.Common.{◌≡◌, ◌⊎◌, inl, inr, ℕ, Bool, true, false, nat_lt, List, [], ◌∷◌, Option, Some, None}
use Rattle.std.proofs.Common.{Result, Ok, Err, refl, ap, subst, ◌∙◌, if◌then◌else◌}
use Rattle.std.proofs.lemmas.Bool.Decides.{eqb_tells}
use Rattle.of_cells.specs.declared.cells.Cell.{Cell}
use Rattle.of_memory.specs.DataSpace.{DataSpace}
use Rattle.of_nodes.specs.Nodes.{node_added}
use Rattle.of_nodes.specs.declared.fault.NodeFault.{NodeFault}
use Rattle.of_nodes.specs.declared.phandles.Phandle.{Phandle}
use Rattle.of_nodes.specs.declared.tree.Node.{Node}
use Rattle.of_ihandles.specs.Ihandles.{IhandlesAreNew, IsReleased}
use Rattle.of_ihandles.specs.Instances.{found, opened, released}
use Rattle.of_ihandles.specs.Table.{InstanceTable}
use Rattle.of_ihandles.specs.declared.instance_fault.InstanceFault.{InstanceFault}
use Rattle.of_board.specs.Active.{device_begun, device_made, finished, finished_from}
use Rattle.of_board.specs.Active.{image_left, latest, since_released}
use Rattle.of_board.specs.Nest.{InstancesNest, IsOfLoad, IsSince, OpensDevice}
use Rattle.of_board.specs.declared.active.NewDevice.{NewDevice}
use Rattle.of_board.specs.declared.board.Board.{Board}
use Rattle.of_board.specs.declared.device_fault.DeviceFault.{DeviceFault}

-- instances with a data space
abbrev Instances : Type 0
Instances = InstanceTable × DataSpace

-- ---- one release

gone_by : (t after : InstanceTable) (m left : DataSpace) (ih : Cell)
    → IsReleased t after ih ⊎ ((found t ih ≡ None) × (after ≡ t) × (left ≡ m)) → found after ih ≡ None
gone_by t after m left ih (inl r) = r.gone
gone_by t after m left ih (inr (none, same, rest)) = ap (λ x. found x ih) same ∙ none

others_by : (t after : InstanceTable) (m left : DataSpace) (ih other : Cell)
    → IsReleased t after ih ⊎ ((found t ih ≡ None) × (after ≡ t) × (left ≡ m)) → (other.0 ≡ ih.0 → ⊥)
    → found after other ≡ found t other
others_by t after m left ih other (inl r) apart = r.others other apart
others_by t after m left ih other (inr (none, same, rest)) apart = ap (λ x. found x other) same

gone : IhandlesAreNew → (x : Instances) (ih : Cell) → found (released x.0 x.1 ih).0 ih ≡ None
gone l x ih =
    let y = released x.0 x.1 ih in gone_by x.0 y.0 x.1 y.1 ih (l.by_release x.0 y.0 x.1 y.1 ih refl)

others : IhandlesAreNew → (x : Instances) (ih other : Cell) → (other.0 ≡ ih.0 → ⊥)
    → found (released x.0 x.1 ih).0 other ≡ found x.0 other
others l x ih other apart =
    let y = released x.0 x.1 ih in others_by x.0 y.0 x.1 y.1 ih other (l.by_release x.0 y.0 x.1 y.1 ih refl) apart

same_cell : (a b : Cell) → a.0 ≡ b.0 → a ≡ b
same_cell a b e = ap (λ n. (let c : Cell = record { 0 = n } in c)) e

-- what is live no more stays so
stays_gone_if : IhandlesAreNew → (x : Instances) (ih other : Cell) → found x.0 other ≡ None
    → (t : Bool) → ((t ≡ true) × (other.0 ≡ ih.0)) ⊎ ((t ≡ false) × (other.0 ≡ ih.0 → ⊥))
    → found (released x.0 x.1 ih).0 other ≡ None
stays_gone_if l x ih other none t (inl (e, same)) =
    ap (λ (c : Cell). found (released x.0 x.1 ih).0 c) (same_cell other ih same) ∙ gone l x ih
stays_gone_if l x ih other none t (inr (e, apart)) = others l x ih other apart ∙ none

stays_gone : IhandlesAreNew → (x : Instances) (ih other : Cell) → found x.0 other ≡ None
    → found (released x.0 x.1 ih).0 other ≡ None
stays_gone l x ih other none = stays_gone_if l x ih other none _ (eqb_tells other.0 ih.0)

-- and the instance itself, whatever its number is written as
is_gone : IhandlesAreNew → (x : Instances) (ih other : Cell) → other.0 ≡ ih.0
    → found (released x.0 x.1 ih).0 other ≡ None
is_gone l x ih other same =
    ap (λ (c : Cell). found (released x.0 x.1 ih).0 c) (same_cell other ih same) ∙ gone l x ih

-- ---- those of many

chosen : (t : Bool) (x y : Instances) (P : Instances → Type 0) → (t ≡ true → P x) → (t ≡ false → P y)
    → P (if t then x else y)
chosen true x y P p q = p refl
chosen false x y P p q = q refl

not_both : (t : Bool) → t ≡ false → t ≡ true → ⊥
not_both true e f = absurd cc
not_both false e f = absurd cc

since_gone : IhandlesAreNew → (count : ℕ) (ds : List NewDevice) (x : Instances) (ih : Cell) → IsSince count ds ih
    → found (since_released count ds x).0 ih ≡ None
since_gone l count [] x ih h = absurd h
since_gone l count (d ∷ ds) x ih (inl (since, same)) =
    let later = since_released count ds x in
    chosen (nat_lt d.number count) later (released later.0 later.1 d.instance) (λ y. found y.0 ih ≡ None)
    (λ e. absurd (not_both (nat_lt d.number count) since e)) (λ e. is_gone l later d.instance ih same)
since_gone l count (d ∷ ds) x ih (inr h) =
    let later = since_released count ds x in
    let none = since_gone l count ds x ih h in
    chosen (nat_lt d.number count) later (released later.0 later.1 d.instance) (λ y. found y.0 ih ≡ None)
    (λ e. none) (λ e. stays_gone l later d.instance ih none)

since_others : IhandlesAreNew → (count : ℕ) (ds : List NewDevice) (x : Instances) (ih : Cell)
    → (IsSince count ds ih → ⊥) → found (since_released count ds x).0 ih ≡ found x.0 ih
since_others l count [] x ih apart = refl
since_others l count (d ∷ ds) x ih apart =
    let later = since_released count ds x in
    let rest = since_others l count ds x ih (λ h. apart (inr h)) in
    chosen (nat_lt d.number count) later (released later.0 later.1 d.instance)
    (λ y. found y.0 ih ≡ found x.0 ih) (λ e. rest)
    (λ e. others l later d.instance ih (λ same. apart (inl (e, same))) ∙ rest)

-- ---- the end of a load

load_gone : IhandlesAreNew → (b : Board) (count : ℕ) (before : Option Phandle) (instance ih : Cell)
    → IsOfLoad b count instance ih → found (image_left b count before instance).instances ih ≡ None
load_gone l b count before instance ih (inl same) =
    is_gone l (since_released count b.active.new_devices.opened (b.instances, b.memory)) instance ih same
load_gone l b count before instance ih (inr since) =
    let x = since_released count b.active.new_devices.opened (b.instances, b.memory) in
    stays_gone l x instance ih
    (since_gone l count b.active.new_devices.opened (b.instances, b.memory) ih since)

load_others : IhandlesAreNew → (b : Board) (count : ℕ) (before : Option Phandle) (instance ih : Cell)
    → (IsOfLoad b count instance ih → ⊥)
    → found (image_left b count before instance).instances ih ≡ found b.instances ih
load_others l b count before instance ih apart =
    let x = since_released count b.active.new_devices.opened (b.instances, b.memory) in
    others l x instance ih (λ same. apart (inl same))
    ∙ since_others l count b.active.new_devices.opened (b.instances, b.memory) ih (λ since. apart (inr since))

-- ---- finishing

abbrev Finishes : Board → Board → Type 0
Finishes b after =
    (d : NewDevice) × (found after.instances d.instance ≡ None)
    × ((ih : Cell) → (ih.0 ≡ d.instance.0 → ⊥) → found after.instances ih ≡ found b.instances ih)

abbrev FinishesIf : Board → Option Board → Type 0
FinishesIf b None = Unit {0}
FinishesIf b (Some after) = Finishes b after

finishes : IhandlesAreNew → (b : Board) (d : Option NewDevice) → FinishesIf b (finished b d)
finishes l b None = tt
finishes l b (Some d) = (
  d,
  gone l (b.instances, b.memory) d.instance,
  (λ ih apart. others l (b.instances, b.memory) d.instance ih apart),
)

all_gone : IhandlesAreNew → (b : Board) (ds : List NewDevice) (ih : Cell) → IsSince 0 ds ih
    → found (finished_from b ds).instances ih ≡ None
all_gone l b [] ih h = absurd h
all_gone l b (d ∷ ds) ih h = since_gone l 0 (d ∷ ds) (b.instances, b.memory) ih h

all_others : IhandlesAreNew → (b : Board) (ds : List NewDevice) (ih : Cell) → (IsSince 0 ds ih → ⊥)
    → found (finished_from b ds).instances ih ≡ found b.instances ih
all_others l b [] ih apart = refl
all_others l b (d ∷ ds) ih apart = since_others l 0 (d ∷ ds) (b.instances, b.memory) ih apart

-- ---- opening

abbrev OpensIf : Board → Phandle → Result Board DeviceFault → Type 0
OpensIf b ph (Ok after) = OpensDevice b after ph
OpensIf b ph (Err e) = Unit {0}

begins : IhandlesAreNew → (b : Board) (ph child : Phandle) (tree : List Node)
    (r : Result (Cell × Instances) InstanceFault) → opened b.instances b.memory child b.active.my_self [] ≡ r
    → OpensIf b ph (device_begun b ph child tree r)
begins l b ph child tree (Ok x) e =
    let new = l.by_open b.instances x.1.0 b.memory x.1.1 child b.active.my_self x.0 [] e in
    record { new = new.before; above = new.above; opened = refl; ever = refl; others = new.others }
begins l b ph child tree (Err f) e = tt

makes : IhandlesAreNew → (b : Board) (ph : Phandle) (r : Result (Phandle × List Node) NodeFault)
    → OpensIf b ph (device_made b ph r)
makes l b ph (Ok x) = begins l b ph x.0 x.1 (opened b.instances b.memory x.0 b.active.my_self []) refl
makes l b ph (Err f) = tt

pub instances_nest : IhandlesAreNew → InstancesNest
instances_nest l = record {
  opens = λ b after ph e. subst (λ r. OpensIf b ph r) e (makes l b ph (node_added b.tree ph));
  released = λ b count before instance ih h. load_gone l b count before instance ih h;
  others = λ b count before instance ih apart. load_others l b count before instance ih apart;
  finished = λ b after e. subst (λ r. FinishesIf b r) e (finishes l b (latest b.active.new_devices));
  all_released = λ b ih h. all_gone l b b.active.new_devices.opened ih h;
  all_others = λ b ih apart. all_others l b b.active.new_devices.opened ih apart;
}
