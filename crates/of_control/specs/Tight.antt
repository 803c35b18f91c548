-- The bodies that are readings: each Block and Cycle has one jump, and is no wider than that jump needs.
use Rattle.std.specs.Prelude.{◌≡◌, ℕ, zero, suc, ◌<◌, Bool, true, false, IsTrue, ◌==◌, if◌then◌else◌, List, [], ◌∷◌}
use Rattle.std.specs.Prelude.{◌++◌, length, map}
use Rattle.of_control.specs.Element.{Element}
use Rattle.of_control.specs.Matching.{Partners}
use Rattle.of_control.specs.Targets.{flat_items, targets_of}
use Rattle.of_control.specs.Body.{Arm, Block, Body, Choice, Counted, Cycle, End, Jump, LeaveLoop, Operation, body_size}
use Rattle.of_control.specs.Body.{items_of}

-- where an item of a body goes by a jump: not out of the body, to its end by leaving Blocks that end there, or to the
-- k-th part round the body
pub data Way : Type 0 where
  Inside : Way
  AtEnd : Way
  Beyond : ℕ → Way

-- the same of a Block or Cycle seen from the body that it is part of, in which it may be a Block that comes last
abbrev pub outward : Bool → Way → Way
outward last Inside = Inside
outward last AtEnd = if last then AtEnd else Inside
outward last (Beyond zero) = if last then AtEnd else Inside
outward last (Beyond (suc k)) = Beyond k

-- no jump leaves a Counted, Choice or Arm
abbrev pub shut : Way → Way
shut w = Inside

-- where each item of a body goes
abbrev pub ways : {A : Type 0} → Body A → List Way
ways End = []
ways (Operation a r) = Inside ∷ ways r
ways (LeaveLoop r) = Inside ∷ ways r
ways (Jump z k r) = Beyond k ∷ ways r
ways (Block b r) = map (outward (body_size r == 0)) (ways b) ++ ways r
ways (Cycle b r) = map (outward false) (ways b) ++ ways r
ways (Counted q b l r) = Inside ∷ (map shut (ways b) ++ (Inside ∷ ways r))
ways (Choice b r) = map shut (ways b) ++ (Inside ∷ ways r)
ways (Arm b r) = Inside ∷ (map shut (ways b) ++ (Inside ∷ ways r))

-- how many items the first part has
abbrev pub first_size : {A : Type 0} → Body A → ℕ
first_size End = 0
first_size (Operation a r) = 1
first_size (LeaveLoop r) = 1
first_size (Jump z k r) = 1
first_size (Block b r) = body_size b
first_size (Cycle b r) = body_size b
first_size (Counted q b l r) = suc (suc (body_size b))
first_size (Choice b r) = suc (body_size b)
first_size (Arm b r) = suc (suc (body_size b))

-- all of the list
abbrev pub Each : {X : Type 0} → (X → Type 0) → List X → Type 0
Each P [] = Unit {0}
Each P (x ∷ xs) = P x × Each P xs

-- no jump to the part round the body
abbrev pub IsOther : Way → Type 0
IsOther (Beyond zero) = ⊥
IsOther (Beyond (suc k)) = Unit {0}
IsOther Inside = Unit {0}
IsOther AtEnd = Unit {0}

-- nor one to the end
abbrev pub IsShorter : Way → Type 0
IsShorter (Beyond zero) = ⊥
IsShorter (Beyond (suc k)) = Unit {0}
IsShorter Inside = Unit {0}
IsShorter AtEnd = ⊥

-- the inside of a Block or Cycle has one jump to it, and none to its end before that
pub record HasOneJump {A : Type 0} (b : Body A) : Type 0 where
  pub earlier : List Way
  pub later : List Way
  pub split : ways b ≡ earlier ++ (Beyond 0 ∷ later)
  pub shorter : Each IsShorter earlier
  pub one : Each IsOther later

-- which the first part of a Block is or holds
pub record IsBlock {A : Type 0} (b : Body A) : Type 0 where
  pub jump : HasOneJump b
  pub soon : length jump.earlier < first_size b

-- and which is the last item of a Cycle
pub record IsCycle {A : Type 0} (b : Body A) : Type 0 where
  pub jump : HasOneJump b
  pub last : jump.later ≡ []

-- a Choice begins with its first Arm, if it has one
abbrev pub BeginsWithArm : {A : Type 0} → Body A → Type 0
BeginsWithArm End = Unit {0}
BeginsWithArm (Arm b r) = Unit {0}
BeginsWithArm _ = ⊥

-- all this of each part, with n Blocks and Cycles round it, a Counted, and a Choice that it is directly in
abbrev pub IsTight : {A : Type 0} → ℕ → Bool → Bool → Body A → Type 0
IsTight n d c End = Unit {0}
IsTight n d c (Operation a r) = IsTight n d c r
IsTight n d c (LeaveLoop r) = IsTrue d × IsTight n d c r
IsTight n d c (Jump z k r) = (k < n) × IsTight n d c r
IsTight n d c (Block b r) = IsBlock b × IsTight (suc n) d false b × IsTight n d c r
IsTight n d c (Cycle b r) = IsCycle b × IsTight (suc n) d false b × IsTight n d c r
IsTight n d c (Counted q b l r) = IsTight 0 true false b × IsTight n d c r
IsTight n d c (Choice b r) = BeginsWithArm b × IsTight 0 d true b × IsTight n d c r
IsTight n d c (Arm b r) = IsTrue c × IsTight 0 d false b × IsTight n d c r

-- the body of a definition with these partners: the tight one that has its items
pub record IsReading {A : Type 0} (es : List (Element A)) (m : Partners) (b : Body A) : Type 0 where
  pub tight : IsTight 0 false false b
  pub listed : items_of b ≡ flat_items (targets_of es m) es m
