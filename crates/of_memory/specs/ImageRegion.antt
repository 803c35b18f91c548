-- The images that run and the image region change by pushes and pops of images alone (IEEE 1275-1994, 5.2.2).
use Rattle.std.specs.Prelude.{ℕ, ◌+◌, ◌≤◌, ◌≡◌, Bool, List, length, drop, Ok}
use Rattle.of_cells.specs.declared.cells.Cell.{Cell}
use Rattle.of_memory.specs.Access.{bytes_written, copied, filled, write}
use Rattle.of_memory.specs.BlockCalls.{heap_given, heap_taken, instance_given, instance_taken, instances_taken}
use Rattle.of_memory.specs.DataSpace.{DataSpace, IsSound, written}
use Rattle.of_memory.specs.Growth.{allotted, append_copied, appended, named_put, property_put, with_state}
use Rattle.of_memory.specs.Growth.{zeros_allotted}
use Rattle.of_memory.specs.Regions.{image_start, place_of}
use Rattle.of_memory.specs.declared.width.Width.{Width}

-- the same images run, and the bytes of the image region, the last of all, are the same
abbrev pub KeepsImages : DataSpace → DataSpace → Type 0
KeepsImages m after =
    (after.images ≡ m.images) × (drop (place_of image_start) after.bytes ≡ drop (place_of image_start) m.bytes)

-- What each call of the data space leaves, but for `image_push`, `image_push_from` and `image_pop`, and bytes that are
-- written below the image region.
pub record ImagesChangeByImagesAlone : Type 0 where
  -- reads and writes
  pub by_write : (w : Width) (m after : DataSpace) (a x : ℕ) → IsSound m
      → write w m a x ≡ Ok after → KeepsImages m after
  pub by_bytes : (m after : DataSpace) (a : ℕ) (xs : List ℕ) → IsSound m
      → bytes_written m a xs ≡ Ok after → KeepsImages m after
  pub by_fill : (m after : DataSpace) (a n x : ℕ) → IsSound m → filled m a n x ≡ Ok after → KeepsImages m after
  pub by_copy : (m after : DataSpace) (from to n : ℕ) → IsSound m → copied m from to n ≡ Ok after → KeepsImages m after
  pub by_state : (m : DataSpace) (compiling : Bool) → IsSound m → KeepsImages m (with_state m compiling)
  pub by_place : (m : DataSpace) (a : ℕ) (xs : List ℕ) → IsSound m → place_of a + length xs ≤ place_of image_start
      → KeepsImages m (written m a xs)
  -- the data region
  pub by_allot : (m after : DataSpace) (n : ℕ) → IsSound m → allotted m n ≡ Ok after → KeepsImages m after
  pub by_append : (m after : DataSpace) (xs : List ℕ) (at : ℕ) → IsSound m
      → appended m xs ≡ Ok (at, after) → KeepsImages m after
  pub by_append_copy : (m after : DataSpace) (a n : ℕ) (tail : List ℕ) (at : ℕ) → IsSound m
      → append_copied m a n tail ≡ Ok (at, after) → KeepsImages m after
  pub by_zeros : (m after : DataSpace) (n at : ℕ) → IsSound m
      → zeros_allotted m n ≡ Ok (at, after) → KeepsImages m after
  -- the property region
  pub by_put : (m after : DataSpace) (xs : List ℕ) (at : ℕ) → IsSound m
      → property_put m xs ≡ Ok (at, after) → KeepsImages m after
  pub by_named_put : (m after : DataSpace) (name value : List ℕ) (at behind : ℕ) → IsSound m
      → named_put m name value ≡ Ok (at, behind, after) → KeepsImages m after
  -- blocks of the heap and of the instance region
  pub by_heap_take : (m after : DataSpace) (n at : ℕ) → IsSound m
      → heap_taken m n ≡ Ok (at, after) → KeepsImages m after
  pub by_heap_give : (m after : DataSpace) (a n : ℕ) → IsSound m → heap_given m a n ≡ Ok after → KeepsImages m after
  pub by_instance_take : (m after : DataSpace) (n at : ℕ) → IsSound m
      → instance_taken m n ≡ Ok (at, after) → KeepsImages m after
  pub by_instance_takes : (m after : DataSpace) (ns at : List Cell) → IsSound m
      → instances_taken m ns ≡ Ok (at, after) → KeepsImages m after
  pub by_instance_give : (m after : DataSpace) (a n : ℕ) → IsSound m
      → instance_given m a n ≡ Ok after → KeepsImages m after
