-- What is printed of an entry stands on one line.
use Rattle.std.proofs.Common.{◌≡◌, ◌<◌, ◌⊎◌, inl, inr, ℕ, zero, suc, ◌*◌, ◌/◌, ◌%◌, ◌&&◌, Bool, true, false, nat_lt}
use Rattle.std.proofs.Common.{List, [], ◌∷◌, ◌++◌, length, map, Option, Some, None, Result, Ok, Err, refl, ap, sym, ◌∙◌}
use Rattle.std.proofs.Common.{subst, arith, if◌then◌else◌}
use Rattle.std.specs.Char.{digit_char}
use Rattle.std.specs.Int.{byte_at, bytes_high_first}
use Rattle.std.specs.List.{All, AllByRecursion, list_all}
use Rattle.std.specs.Prelude.{codes, drop, nat_eq, nat_le, slice_index}
use Rattle.std.proofs.lemmas.List.{append_assoc}
use Rattle.std.proofs.lemmas.List.Elements.{All-drop, All-head, All-tail, All-take}
use Rattle.byteorder.specs.Endian.{big_number}
use Rattle.hex.specs.Hex.{encode_lower, encode_with, lower_digits}
use Rattle.of_format.specs.Digits.{digits, unsigned_text}
use Rattle.of_memory.specs.Access.{read_fault, unless}
use Rattle.of_memory.specs.DataSpace.{DataSpace, IsSound, bytes_from}
use Rattle.of_memory.specs.Regions.{place_of}
use Rattle.of_memory.specs.declared.fault.MemFault.{MemFault}
use Rattle.of_memory.specs.declared.width.Width.TheVariants.{One}
use Rattle.of_nodes.specs.declared.properties.Property.{Property}
use Rattle.of_nodes.specs.declared.tree.Node.{Node}
use Rattle.of_nodes.specs.Components.{address_cells, address_text, comma, component, name_at, node_name, unit_in}
use Rattle.of_nodes.specs.Components.{value_of}
use Rattle.of_nodes.specs.Names.{is_name, is_name_byte}
use Rattle.of_nodes.specs.declared.fault.NodeFault.{NodeFault}
use Rattle.of_nodes.specs.declared.phandles.Phandle.{Phandle}
use Rattle.of_nodes.specs.Nodes.{by_phandle, number_of, phandle_of, properties_in}
use Rattle.of_nodes.specs.Paths.{component_in}
use Rattle.of_nodes.specs.Properties.{bytes_at, bytes_read}
use Rattle.of_nodes.specs.declared.properties.Span.{Span}
use Rattle.of_console.specs.Children.{children_in, children_shown}
use Rattle.of_console.specs.Laws.{ChildrenAreListed, PropertiesAreListed, entries_shown}
use Rattle.of_console.specs.Values.{all_shown, before_last, behind_name, grouped, is_shown, is_text, last_byte}
use Rattle.of_console.specs.Values.{value_shown}
use Rattle.of_console_laws.specs.Lines.{IsLine, ListingsAreLines, child_line, property_line, text_of}

-- ---- bytes that are shown

first_holds : (b c : Bool) → (b && c) ≡ true → b ≡ true
first_holds true c h = refl
first_holds false c h = absurd cc

second_holds : (b c : Bool) → (b && c) ≡ true → c ≡ true
second_holds true c h = h
second_holds false c h = absurd cc

both_hold : (b c : Bool) → b ≡ true → c ≡ true → (b && c) ≡ true
both_hold true c h k = k
both_hold false c h k = absurd cc

both : (xs ys : List ℕ) → IsLine xs → IsLine ys → IsLine (xs ++ ys)
both [] ys h k = k
both (x ∷ xs) ys h k =
    both_hold (is_shown x) (all_shown (xs ++ ys)) (first_holds (is_shown x) (all_shown xs) h)
    (both xs ys (second_holds (is_shown x) (all_shown xs) h) k)

shown_digit : (d : ℕ) → d < 16 → is_shown (digit_char d) ≡ true
shown_digit d l = by_kind (nat_lt d 10) refl
  where
    by_kind : (b : Bool) → nat_lt d 10 ≡ b → is_shown (digit_char d) ≡ true
    by_kind true e = grind (arith, l, e)
    by_kind false e = grind (arith, l, e)

one_shown : (b : ℕ) → is_shown b ≡ true → IsLine (b ∷ [])
one_shown b h = ap (λ x. x && true) h

-- ---- numbers

digits_shown : (more n : ℕ) → IsLine (digits more 16 n)
unfolding digits
digits_shown zero n = one_shown (digit_char (n % 16)) (shown_digit (n % 16) (omega arith))
digits_shown (suc more) n = by_size (nat_lt n 16) (digits_shown more (n / 16))
  where
    by_size : (b : Bool) → IsLine (digits more 16 (n / 16)) → IsLine (if b then digit_char (n % 16) ∷ []
        else digits more 16 (n / 16) ++ digit_char (n % 16) ∷ [])
    by_size true h = one_shown (digit_char (n % 16)) (shown_digit (n % 16) (omega arith))
    by_size false h =
        both (digits more 16 (n / 16)) (digit_char (n % 16) ∷ []) h
        (one_shown (digit_char (n % 16)) (shown_digit (n % 16) (omega arith)))

comma_shown : (i : ℕ) → IsLine (comma i)
comma_shown zero = refl
comma_shown (suc i) = refl

address_shown : (xs : List ℕ) (count : ℕ) → IsLine (address_text xs count)
address_shown xs zero = refl
address_shown xs (suc i) =
    both (address_text xs i) (comma i ++ unsigned_text 16 (big_number 4 (drop (4 * i) xs))) (address_shown xs i)
    (both (comma i) (unsigned_text 16 (big_number 4 (drop (4 * i) xs))) (comma_shown i)
    (digits_shown 31 (big_number 4 (drop (4 * i) xs))))

-- ---- components

name_byte_shown : (b : ℕ) → is_name_byte b ≡ true → is_shown b ≡ true
name_byte_shown b h = grind (arith, h)

name_bytes : (xs : List ℕ) → list_all is_name_byte xs ≡ true → IsLine xs
name_bytes [] h = refl
name_bytes (b ∷ xs) h =
    both_hold (is_shown b) (all_shown xs)
    (name_byte_shown b (first_holds (is_name_byte b) (list_all is_name_byte xs) h))
    (name_bytes xs (second_holds (is_name_byte b) (list_all is_name_byte xs) h))

name_shown : (xs : List ℕ) → is_name xs ≡ true → IsLine xs
name_shown xs h =
    let some = nat_le 1 (length xs) in
    let short = nat_le (length xs) 31 in
    let bytes = list_all is_name_byte xs in
    name_bytes xs (second_holds (some && short) bytes h)

unit_shown : (name : List ℕ) (count : ℕ) (reg : Option (List ℕ)) → IsLine name
    → IsLine (name_at name (unit_in count reg))
unit_shown name count None h = h
unit_shown name count (Some xs) h = by_length (nat_lt (length xs) (4 * count))
  where
    by_length : (b : Bool) → IsLine (name_at name (if b then None else Some (address_text xs count)))
    by_length true = h
    by_length false = both name (64 ∷ address_text xs count) h (address_shown xs count)

component_shown : (m : DataSpace) (above n : Node) → (is_name (node_name m n) ≡ true) ⊎ (node_name m n ≡ [])
    → IsLine (component m above n)
component_shown m above n h =
    unit_shown (node_name m n) (address_cells m above) (value_of m n (codes "reg")) (of_name h)
  where
    of_name : (is_name (node_name m n) ≡ true) ⊎ (node_name m n ≡ []) → IsLine (node_name m n)
    of_name (inl good) = name_shown (node_name m n) good
    of_name (inr none) = subst (λ xs. IsLine xs) (sym none) refl

-- ---- values

abbrev AreSmall : List ℕ → Type 0
AreSmall xs = AllByRecursion (λ b. b < 256) xs

small : (xs : List ℕ) → All (λ b. b < 256) xs → AreSmall xs
small [] h = tt
small (x ∷ xs) h = (All-head (λ b. b < 256) x xs h, small xs (All-tail (λ b. b < 256) x xs h))

hex_digit_shown : (d : ℕ) → d < 16 → is_shown (slice_index lower_digits d) ≡ true
hex_digit_shown d l = at_place lower_digits d refl l
  where
    at_place : (xs : List ℕ) (i : ℕ) → list_all is_shown xs ≡ true → i < length xs → is_shown (slice_index xs i) ≡ true
    at_place [] i h k = absurd (omega (arith, k))
    at_place (x ∷ xs) zero h k = first_holds (is_shown x) (list_all is_shown xs) h
    at_place (x ∷ xs) (suc i) h k =
        at_place xs i (second_holds (is_shown x) (list_all is_shown xs) h) (omega (arith, k))

hex_shown : (v : List ℕ) → AreSmall v → IsLine (encode_lower v)
unfolding encode_with
hex_shown [] h = refl
hex_shown (b ∷ v) h =
    let fits : b < 256 = h.0 in
    let high : b / 16 < 16 = omega (arith, fits) in
    let low : b % 16 < 16 = omega arith in
    both_hold (is_shown (slice_index lower_digits (b / 16))) _ (hex_digit_shown (b / 16) high)
    (both_hold (is_shown (slice_index lower_digits (b % 16))) _ (hex_digit_shown (b % 16) low) (hex_shown v h.1))

grouped_shown : (v : List ℕ) → AreSmall v → IsLine (grouped v)
grouped_shown [] h = hex_shown [] h
grouped_shown (a ∷ []) h = hex_shown (a ∷ []) h
grouped_shown (a ∷ b ∷ []) h = hex_shown (a ∷ b ∷ []) h
grouped_shown (a ∷ b ∷ c ∷ []) h = hex_shown (a ∷ b ∷ c ∷ []) h
grouped_shown (a ∷ b ∷ c ∷ d ∷ []) h = hex_shown (a ∷ b ∷ c ∷ d ∷ []) h
grouped_shown (a ∷ b ∷ c ∷ d ∷ e ∷ v) h =
    both (encode_lower (a ∷ b ∷ c ∷ d ∷ [])) (32 ∷ grouped (e ∷ v))
    (hex_shown (a ∷ b ∷ c ∷ d ∷ []) (h.0, (h.1.0, (h.1.1.0, (h.1.1.1.0, tt))))) (grouped_shown (e ∷ v) h.1.1.1.1)

value_is_shown : (v : List ℕ) → AreSmall v → IsLine (value_shown v)
value_is_shown v h = by_kind (is_text v) refl
  where
    by_kind : (b : Bool) → is_text v ≡ b → IsLine (if b then 34 ∷ before_last v ++ 34 ∷ [] else grouped v)
    by_kind true e =
        let long = nat_lt 1 (length v) in
        let ended = nat_eq (last_byte v) 0 in
        let shown = all_shown (before_last v) in
        both (34 ∷ before_last v) (34 ∷ []) (second_holds (long && ended) shown e) refl
    by_kind false e = grouped_shown v h

behind_shown : (v : List ℕ) → AreSmall v → IsLine (behind_name v)
behind_shown [] h = refl
behind_shown (b ∷ v) h = value_is_shown (b ∷ v) h

-- the bytes at a span
span_small : (m : DataSpace) (s : Span) → IsSound m → AreSmall (bytes_at m s)
span_small m s sound = by_fault (read_fault m s.address.0 s.length.0 One)
  where
    by_fault : (o : Option MemFault) → AreSmall (bytes_read (unless o (bytes_from m s.address.0 s.length.0)))
    by_fault None =
        small (bytes_from m s.address.0 s.length.0)
        (All-take (λ b. b < 256) s.length.0 (drop (place_of s.address.0) m.bytes)
        (All-drop (λ b. b < 256) (place_of s.address.0) m.bytes sound.small))
    by_fault (Some fault) = tt

-- ---- lines

entries_are : (m : DataSpace) (es : List (List ℕ × Property)) → entries_shown m es ≡ text_of (map (property_line m) es)
entries_are m [] = refl
entries_are m (e ∷ es) =
    ap (λ l. e.0 ++ behind_name (bytes_at m e.1.value) ++ 10 ∷ l) (entries_are m es)

entries_each : (m : DataSpace) (es : List (List ℕ × Property)) → IsSound m
    → AllByRecursion (λ e. is_name e.0 ≡ true) es → AllByRecursion IsLine (map (property_line m) es)
entries_each m [] sound h = tt
entries_each m (e ∷ es) sound h = (
  both e.0 (behind_name (bytes_at m e.1.value)) (name_shown e.0 h.0)
      (behind_shown (bytes_at m e.1.value) (span_small m e.1.value sound)),
  entries_each m es sound h.1,
)

children_are : (m : DataSpace) (ns : List Node) (ks : List ℕ)
    → children_shown m ns ks ≡ text_of (map (child_line m ns) ks)
unfolding encode_with
children_are m ns [] = refl
children_are m ns (k ∷ ks) =
    let phandle = encode_lower (bytes_high_first 4 (phandle_of k).0.0) in
    let component = component_in m ns k in
    let more = children_shown m ns ks in
    append_assoc phandle (32 ∷ component ++ 10 ∷ []) more
    ∙ ap (λ l. phandle ++ 32 ∷ l) (append_assoc component (10 ∷ []) more)
    ∙ sym (append_assoc phandle (32 ∷ component) (10 ∷ more))
    ∙ ap (λ l. (phandle ++ 32 ∷ component) ++ 10 ∷ l) (children_are m ns ks)

byte_small : (n x : ℕ) → byte_at n x < 256
byte_small zero x = omega arith
byte_small (suc n) x = omega arith

phandle_small : (n x : ℕ) → AreSmall (bytes_high_first n x)
phandle_small zero x = tt
phandle_small (suc n) x = (byte_small n x, phandle_small n x)

children_each : (m : DataSpace) (ns : List Node) (ks : List ℕ)
    → AllByRecursion (λ k. IsLine (component_in m ns k)) ks → AllByRecursion IsLine (map (child_line m ns) ks)
children_each m ns [] h = tt
children_each m ns (k ∷ ks) h = (
  both (encode_lower (bytes_high_first 4 (phandle_of k).0.0)) (32 ∷ component_in m ns k)
      (hex_shown (bytes_high_first 4 (phandle_of k).0.0) (phandle_small 4 (phandle_of k).0.0)) h.0,
  children_each m ns ks h.1,
)

-- ---- the law

same_text : (a b : List ℕ) → ◌≡◌ {A = Result (List ℕ) NodeFault} (Ok a) (Ok b) → a ≡ b
same_text a b e = ap (λ (r : Result (List ℕ) NodeFault). unwrap_or_empty r) e
  where
    unwrap_or_empty : Result (List ℕ) NodeFault → List ℕ
    unwrap_or_empty (Ok xs) = xs
    unwrap_or_empty (Err f) = []

at_node : (ns : List Node) (ph : Phandle) (i : ℕ) (f : ℕ → Result (List ℕ) NodeFault)
    → number_of (length ns) ph ≡ Some i → by_phandle ns ph f ≡ f i
at_node ns ph i f e = rw e refl

pub listings_are_lines : ChildrenAreListed → PropertiesAreListed → ListingsAreLines
listings_are_lines children properties = record {
  properties = λ m ns ph i text sound stored number names listed. (
    record {
      text_is = same_text text (entries_shown m (properties_in ns i))
          (sym listed ∙ properties.listed m ns ph i stored number)
          ∙ entries_are m (properties_in ns i);
      each = entries_each m (properties_in ns i) sound names;
    },
    (stored i).distinct,
  );
  children = λ m ns ph i text number printable listed. (
    record {
      text_is = same_text text (children_shown m ns (children_in ns i))
          (sym listed ∙ at_node ns ph i (λ k. Ok (children_shown m ns (children_in ns k))) number)
          ∙ children_are m ns (children_in ns i);
      each = children_each m ns (children_in ns i) printable;
    },
    children.order ns i,
  );
  component = component_shown;
}
