-- A data space is sound at first, and each change leaves a sound one sound.
use Rattle.std.specs.Int.{bytes_high_first}
use Rattle.std.specs.List.{All}
use Rattle.std.specs.Prelude.{ℕ, ◌+◌, ◌<◌, ◌≤◌, ◌≡◌, Bool, List, length, Ok}
use Rattle.of_cells.specs.declared.cells.Cell.{Cell}
use Rattle.of_memory.specs.Access.{bytes_written, copied, filled, write}
use Rattle.of_memory.specs.BlockCalls.{heap_given, heap_taken, instance_given, instance_taken, instances_taken}
use Rattle.of_memory.specs.DataSpace.{DataSpace, IsSound, fresh, written}
use Rattle.of_memory.specs.Growth.{allotted, append_copied, appended, image_popped, image_pushed, image_pushed_from}
use Rattle.of_memory.specs.Growth.{named_put, property_put, with_state, zeros_allotted}
use Rattle.of_memory.specs.Regions.{byte_count, place_of}
use Rattle.of_memory.specs.declared.width.Width.{Width}

-- each is a byte
abbrev pub AreBytes : List ℕ → Type 0
AreBytes xs = All (λ b. b < 256) xs

-- The data space at first, what each call leaves, and bytes that are written among the bytes of all regions; and a
-- number's bytes are bytes.
pub record ChangesStaySound : Type 0 where
  pub at_first : IsSound fresh
  pub number : (count n : ℕ) → AreBytes (bytes_high_first count n)
  -- reads and writes
  pub by_write : (w : Width) (m after : DataSpace) (a x : ℕ) → IsSound m → write w m a x ≡ Ok after → IsSound after
  pub by_bytes : (m after : DataSpace) (a : ℕ) (xs : List ℕ) → IsSound m → AreBytes xs
      → bytes_written m a xs ≡ Ok after → IsSound after
  pub by_fill : (m after : DataSpace) (a n x : ℕ) → IsSound m → x < 256 → filled m a n x ≡ Ok after → IsSound after
  pub by_copy : (m after : DataSpace) (from to n : ℕ) → IsSound m → copied m from to n ≡ Ok after → IsSound after
  pub by_state : (m : DataSpace) (compiling : Bool) → IsSound m → IsSound (with_state m compiling)
  pub by_place : (m : DataSpace) (a : ℕ) (xs : List ℕ) → IsSound m → AreBytes xs → place_of a + length xs ≤ byte_count
      → IsSound (written m a xs)
  -- the data region
  pub by_allot : (m after : DataSpace) (n : ℕ) → IsSound m → allotted m n ≡ Ok after → IsSound after
  pub by_append : (m after : DataSpace) (xs : List ℕ) (at : ℕ) → IsSound m → AreBytes xs
      → appended m xs ≡ Ok (at, after) → IsSound after
  pub by_append_copy : (m after : DataSpace) (a n : ℕ) (tail : List ℕ) (at : ℕ) → IsSound m → AreBytes tail
      → append_copied m a n tail ≡ Ok (at, after) → IsSound after
  pub by_zeros : (m after : DataSpace) (n at : ℕ) → IsSound m → zeros_allotted m n ≡ Ok (at, after) → IsSound after
  -- the property region
  pub by_put : (m after : DataSpace) (xs : List ℕ) (at : ℕ) → IsSound m → AreBytes xs
      → property_put m xs ≡ Ok (at, after) → IsSound after
  pub by_named_put : (m after : DataSpace) (name value : List ℕ) (at behind : ℕ) → IsSound m → AreBytes name
      → AreBytes value → named_put m name value ≡ Ok (at, behind, after) → IsSound after
  -- the image region
  pub by_push : (m after : DataSpace) (xs : List ℕ) (at : ℕ) → IsSound m → AreBytes xs
      → image_pushed m xs ≡ Ok (at, after) → IsSound after
  pub by_push_from : (m after : DataSpace) (a n s at : ℕ) → IsSound m
      → image_pushed_from m a n s ≡ Ok (at, after) → IsSound after
  pub by_pop : (m : DataSpace) → IsSound m → IsSound (image_popped m)
  -- blocks of the heap and of the instance region
  pub by_heap_take : (m after : DataSpace) (n at : ℕ) → IsSound m → heap_taken m n ≡ Ok (at, after) → IsSound after
  pub by_heap_give : (m after : DataSpace) (a n : ℕ) → IsSound m → heap_given m a n ≡ Ok after → IsSound after
  pub by_instance_take : (m after : DataSpace) (n at : ℕ) → IsSound m
      → instance_taken m n ≡ Ok (at, after) → IsSound after
  pub by_instance_takes : (m after : DataSpace) (ns at : List Cell) → IsSound m
      → instances_taken m ns ≡ Ok (at, after) → IsSound after
  pub by_instance_give : (m after : DataSpace) (a n : ℕ) → IsSound m
      → instance_given m a n ≡ Ok after → IsSound after
