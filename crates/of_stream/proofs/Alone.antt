-- What is read from the first bytes doesn't depend on what stands behind them.
use Rattle.std.proofs.Common.{◌≡◌, ℕ, ◌+◌, ◌*◌, ◌≤◌, List, [], ◌∷◌, ◌++◌, length, take, drop, Option, Some, None}
use Rattle.std.proofs.Common.{Bool, true, false, ◌||◌, nat_eq, nat_lt, unwrap_or, refl, sym, ap, ◌∙◌, arith}
use Rattle.std.proofs.Common.{append_assoc}
use Rattle.std.proofs.lemmas.Bool.Decides.{nat_tests}
use Rattle.std.proofs.Math.Seq.{take-append_seam, drop-append_seam}
use Rattle.std.proofs.lemmas.List.{take-append-drop, length-append, length-take-le}
use Rattle.std.specs.Option.{option_map}
use Rattle.of_cells.specs.declared.cells.Cell.{Cell}
use Rattle.of_fcodes.specs.declared.codes.FCode.{FCode}
use Rattle.of_fcodes.specs.declared.operand.Operand.{Operand}
use Rattle.of_fcodes.specs.declared.operand.Operand.TheVariants as operand
use Rattle.of_fcodes.specs.Lookup.{operand_numbered}
use Rattle.of_stream.specs.declared.stream.OffsetSize.{OffsetSize}
use Rattle.of_stream.specs.declared.stream.OffsetSize.TheVariants.{One, Two}
use Rattle.of_stream.specs.Decoding.{Argument, Nothing, Literal, String, Code, Named, Offset, Token, code, second}
use Rattle.of_stream.specs.Decoding.{literal, counted, offset, argument, named, name_and_code, token_of, token_behind}
use Rattle.of_stream.specs.Decoding.{decoded, StandsAlone, TokenStandsAlone}

-- the bytes that f read, and that it reads the same before other bytes
abbrev IsAlone : {A : Type 0} → (List ℕ → Option (A × List ℕ)) → Type 0
IsAlone {A} f = (bytes rest : List ℕ) (x : A) → f bytes ≡ Some (x, rest)
    → (own : List ℕ) × (bytes ≡ own ++ rest) × ((more : List ℕ) → f (own ++ more) ≡ Some (x, more))

abbrev pub found : {A B : Type 0} → A → B → Option (A × B)
found a b = Some (a, b)

pub first_of_some : {A B : Type 0} (a c : A) (b d : B) → found a b ≡ found c d → a ≡ c
first_of_some {A} {B} a c b d h = ap (λ (o : Option (A × B)). (unwrap_or {T = A × B} o (a, b)).0) h

pub second_of_some : {A B : Type 0} (a c : A) (b d : B) → found a b ≡ found c d → b ≡ d
second_of_some {A} {B} a c b d h = ap (λ (o : Option (A × B)). (unwrap_or {T = A × B} o (a, b)).1) h

pub second_alone : (b : ℕ) (bytes rest : List ℕ) (c : FCode) → second b bytes ≡ Some (c, rest)
    → (x : ℕ) × (bytes ≡ x ∷ rest) × (c ≡ record { 0 = b * 256 + x })
second_alone b [] rest c h = absurd cc
second_alone b (x ∷ bytes) rest c h = (
  x,
  ap (λ xs. x ∷ xs) (second_of_some (record { 0 = b * 256 + x }) c bytes rest h),
  sym
      (first_of_some (record { 0 = b * 256 + x }) c bytes rest h),
)

code_by : (t : Bool) (b : ℕ) (bytes rest : List ℕ) (c : FCode) → (nat_eq b 0 || nat_lt 0x0f b) ≡ t
    → code (b ∷ bytes) ≡ Some (c, rest)
    → (own : List ℕ) × (b ∷ bytes ≡ (b ∷ own) ++ rest) × ((more : List ℕ) → code ((b ∷ own) ++ more) ≡ found c more)
code_by true b bytes rest c e h =
    let byte : FCode = record { 0 = b } in
    let read : found byte bytes ≡ found c rest = rw e at h in
    let same : byte ≡ c = first_of_some byte c bytes rest read in
    ([], ap (λ xs. b ∷ xs) (second_of_some byte c bytes rest read), λ more. rw e (ap (λ x. found x more) same))
code_by false b bytes rest c e h =
    let read : second b bytes ≡ Some (c, rest) = rw e at h in
    let next = second_alone b bytes rest c read in
    (next.0 ∷ [], ap (λ xs. b ∷ xs) next.1, λ more. rw e (ap (λ x. found x more) (sym next.2)))

code_alone : IsAlone code
code_alone [] rest c h = absurd cc
code_alone (b ∷ bytes) rest c h = let read =
    code_by (nat_eq b 0 || nat_lt 0x0f b) b bytes rest c refl h in (b ∷ read.0, read.1, read.2)

literal_alone : IsAlone literal
literal_alone [] rest x h = absurd cc
literal_alone (a ∷ []) rest x h = absurd cc
literal_alone (a ∷ b ∷ []) rest x h = absurd cc
literal_alone (a ∷ b ∷ c ∷ []) rest x h = absurd cc
literal_alone (a ∷ b ∷ c ∷ d ∷ bytes) rest x h =
    let read : Cell = record { 0 = ((a * 256 + b) * 256 + c) * 256 + d } in (
      a ∷ b ∷ c ∷ d ∷ [],
      ap (λ xs. a ∷ b ∷ c ∷ d ∷ xs) (second_of_some read x bytes rest h),
      λ more. ap (λ y. found y more) (first_of_some read x bytes rest h),
    )

offset_alone : (size : OffsetSize) → IsAlone (offset size)
offset_alone One [] rest x h = absurd cc
offset_alone One (a ∷ bytes) rest x h = (
  a ∷ [],
  ap (λ xs. a ∷ xs) (second_of_some _ x bytes rest h),
  λ more. ap (λ y. found y more)
      (first_of_some _ x bytes rest h),
)
offset_alone Two [] rest x h = absurd cc
offset_alone Two (a ∷ []) rest x h = absurd cc
offset_alone Two (a ∷ b ∷ bytes) rest x h = (
  a ∷ b ∷ [],
  ap (λ xs. a ∷ b ∷ xs) (second_of_some _ x bytes rest h),
  λ more. ap (λ y. found y more)
      (first_of_some _ x bytes rest h),
)

-- a string is read from its own bytes
counted-own : (n : ℕ) (bytes more : List ℕ) → n ≤ length bytes
    → counted (n ∷ (take n bytes ++ more)) ≡ found (take n bytes) more
counted-own n bytes more h =
    let size : length (take n bytes) ≡ n = length-take-le n bytes h in
    let enough : nat_lt (length (take n bytes ++ more)) n ≡ false =
    grind (arith, nat_tests, size, length-append (take n bytes) more) in
    let front : take n (take n bytes ++ more) ≡ take n bytes = ap (λ k. take k (take n bytes ++ more)) (sym size)
    ∙ take-append_seam (take n bytes) more in
    let back : drop n (take n bytes ++ more) ≡ more = ap (λ k. drop k (take n bytes ++ more)) (sym size)
    ∙ drop-append_seam (take n bytes) more in
    rw (enough, front, back) refl

counted_by : (t : Bool) (n : ℕ) (bytes rest x : List ℕ) → nat_lt (length bytes) n ≡ t
    → counted (n ∷ bytes) ≡ found x rest
    → (own : List ℕ) × (n ∷ bytes ≡ own ++ rest) × ((more : List ℕ) → counted (own ++ more) ≡ found x more)
counted_by true n bytes rest x e h =
    let read : None ≡ found x rest = rw e at h in
    absurd cc
counted_by false n bytes rest x e h =
    let fits : n ≤ length bytes = grind (arith, nat_tests, e) in
    let read : found (take n bytes) (drop n bytes) ≡ found x rest = rw e at h in
    let text : take n bytes ≡ x = first_of_some (take n bytes) x (drop n bytes) rest read in
    let behind : drop n bytes ≡ rest = second_of_some (take n bytes) x (drop n bytes) rest read in (
      n ∷ take n bytes,
      ap (λ xs. n ∷ xs) (sym (take-append-drop n bytes) ∙ ap (λ xs. take n bytes ++ xs) behind),
      λ more. counted-own n bytes more fits ∙ ap (λ y. found y more) text,
    )

counted_alone : IsAlone counted
counted_alone [] rest x h = absurd cc
counted_alone (n ∷ bytes) rest x h = counted_by (nat_lt (length bytes) n) n bytes rest x refl h

abbrev pub with_first : {A B : Type 0} → (A → B) → A × List ℕ → B × List ℕ
with_first g r = (g r.0, r.1)

map_by : {A B : Type 0} (f : List ℕ → Option (A × List ℕ)) (g : A → B) → IsAlone f
    → (o : Option (A × List ℕ)) (bytes rest : List ℕ) (y : B) → f bytes ≡ o → option_map (with_first g) o ≡ found y rest
    → (own : List ℕ) × (bytes ≡ own ++ rest) ×
    ((more : List ℕ) → option_map (with_first g) (f (own ++ more)) ≡ found y more)
map_by f g alone None bytes rest y e h = absurd cc
map_by f g alone (Some r) bytes rest y e h =
    let own = alone bytes r.1 r.0 e in (
      own.0,
      own.1 ∙ ap (λ xs. own.0 ++ xs) (second_of_some (g r.0) y r.1 rest h),
      λ more. ap (option_map (with_first g)) (own.2 more) ∙ ap (λ z. found z more) (first_of_some (g r.0) y r.1 rest h),
    )

-- something else made of what was read
map_alone : {A B : Type 0} (f : List ℕ → Option (A × List ℕ)) (g : A → B) → IsAlone f
    → IsAlone (λ bytes. option_map (with_first g) (f bytes))
map_alone f g alone bytes rest y h = map_by f g alone (f bytes) bytes rest y refl h

named_by : (name behind : List ℕ) (o : Option (FCode × List ℕ)) (rest : List ℕ) (y : Argument) → code behind ≡ o
    → named name o ≡ found y rest
    → (own : List ℕ) × (behind ≡ own ++ rest) × ((more : List ℕ) → named name (code (own ++ more)) ≡ found y more)
named_by name behind None rest y e h = absurd cc
named_by name behind (Some c) rest y e h =
    let own = code_alone behind c.1 c.0 e in (
      own.0,
      own.1 ∙ ap (λ xs. own.0 ++ xs) (second_of_some (Named name c.0) y c.1 rest h),
      λ more. ap (named name) (own.2 more) ∙ ap (λ z. found z more) (first_of_some (Named name c.0) y c.1 rest h),
    )

name_and_code_by : (o : Option (List ℕ × List ℕ)) (bytes rest : List ℕ) (y : Argument) → counted bytes ≡ o
    → name_and_code o ≡ found y rest
    → (own : List ℕ) × (bytes ≡ own ++ rest) × ((more : List ℕ) → name_and_code (counted (own ++ more)) ≡ found y more)
name_and_code_by None bytes rest y e h = absurd cc
name_and_code_by (Some n) bytes rest y e h =
    let name = counted_alone bytes n.1 n.0 e in
    let last = named_by n.0 n.1 (code n.1) rest y refl h in (
      name.0 ++ last.0,
      name.1 ∙ ap (λ xs. name.0 ++ xs) last.1 ∙ sym (append_assoc name.0 last.0 rest),
      λ more. ap (λ xs. name_and_code (counted xs)) (append_assoc name.0 last.0 more)
          ∙ ap name_and_code (name.2 (last.0 ++ more)) ∙ last.2 more,
    )

argument_alone : (o : Operand) (size : OffsetSize) → IsAlone (argument o size)
argument_alone operand.Nothing size bytes rest y h =
    ([], second_of_some Nothing y bytes rest h, λ more. ap (λ z. found z more) (first_of_some Nothing y bytes rest h))
argument_alone operand.Literal size bytes rest y h = map_alone literal Literal literal_alone bytes rest y h
argument_alone operand.String size bytes rest y h = map_alone counted String counted_alone bytes rest y h
argument_alone operand.FCode size bytes rest y h = map_alone code Code code_alone bytes rest y h
argument_alone operand.Named size bytes rest y h = name_and_code_by (counted bytes) bytes rest y refl h
argument_alone operand.Offset size bytes rest y h = map_alone (offset size) Offset (offset_alone size) bytes rest y h

abbrev token : FCode → Argument → Token
token c a = record { code = c; argument = a }

token_of_by : (size : OffsetSize) (c : FCode) (behind : List ℕ) (o : Option (Argument × List ℕ)) (rest : List ℕ)
    (t : Token)
    → argument (operand_numbered c.0) size behind ≡ o → token_of c o ≡ found t rest
    → (own : List ℕ) × (behind ≡ own ++ rest) ×
    ((more : List ℕ) → token_of c (argument (operand_numbered c.0) size (own ++ more)) ≡ found t more)
token_of_by size c behind None rest t e h = absurd cc
token_of_by size c behind (Some a) rest t e h =
    let own = argument_alone (operand_numbered c.0) size behind a.1 a.0 e in (
      own.0,
      own.1 ∙ ap (λ xs. own.0 ++ xs) (second_of_some (token c a.0) t a.1 rest h),
      λ more. ap (token_of c) (own.2 more) ∙ ap (λ z. found z more) (first_of_some (token c a.0) t a.1 rest h),
    )

abbrev Own : OffsetSize → List ℕ → List ℕ → Token → Type 0
Own size bytes rest t = (own : List ℕ) × (bytes ≡ own ++ rest) × StandsAlone size t own

token_by : (size : OffsetSize) (b : ℕ) (o : Option (FCode × List ℕ)) (bytes rest : List ℕ) (t : Token)
    → code (b ∷ bytes) ≡ o → token_behind size o ≡ found t rest
    → Own size (b ∷ bytes) rest t
unfolding decoded
token_by size b None bytes rest t e h = absurd cc
token_by size b (Some c) bytes rest t e h =
    let first = code_by (nat_eq b 0 || nat_lt 0x0f b) b bytes c.1 c.0 refl e in
    let last = token_of_by size c.0 c.1 (argument (operand_numbered c.0.0) size c.1) rest t refl h in (
      (b ∷ first.0) ++ last.0,
      first.1 ∙ ap (λ xs. (b ∷ first.0) ++ xs) last.1 ∙ sym (append_assoc (b ∷ first.0) last.0 rest),
      record {
        some = omega arith;
        alone = λ more. ap (λ xs. token_behind size (code xs)) (append_assoc (b ∷ first.0) last.0 more)
            ∙ ap (token_behind size) (first.2 (last.0 ++ more)) ∙ last.2 more;
      },
    )

-- each token has its own bytes
pub token_alone : TokenStandsAlone
unfolding decoded
token_alone size [] rest t h = absurd cc
token_alone size (b ∷ bytes) rest t h = token_by size b (code (b ∷ bytes)) bytes rest t refl h
