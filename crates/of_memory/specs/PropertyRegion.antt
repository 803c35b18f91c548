-- The property region from its first property on changes by puts of properties alone.
use Rattle.std.specs.Prelude.{ℕ, ◌+◌, ◌≤◌, ◌≡◌, Bool, List, Ok}
use Rattle.of_cells.specs.declared.cells.Cell.{Cell}
use Rattle.of_memory.specs.Access.{bytes_written, copied, filled, read_bytes, write}
use Rattle.of_memory.specs.BlockCalls.{heap_given, heap_taken, instance_given, instance_taken, instances_taken}
use Rattle.of_memory.specs.DataSpace.{DataSpace, IsSound}
use Rattle.of_memory.specs.Growth.{allotted, append_copied, appended, image_popped, image_pushed, image_pushed_from}
use Rattle.of_memory.specs.Growth.{with_state, zeros_allotted}
use Rattle.of_memory.specs.Regions.{first_property, property_limit}
use Rattle.of_memory.specs.declared.width.Width.{Width}

-- each range of the region reads as before, and the latest property ends where it did
pub record KeepsProperties (m after : DataSpace) : Type 0 where
  pub reads : (a n : ℕ) → first_property ≤ a → a + n ≤ property_limit → read_bytes after a n ≡ read_bytes m a n
  pub ends : after.properties_end ≡ m.properties_end

-- What each call of the data space leaves, but for `put_property` and `put_named`.
pub record PropertiesChangeByPutsAlone : Type 0 where
  -- reads and writes
  pub by_write : (w : Width) (m after : DataSpace) (a x : ℕ) → IsSound m
      → write w m a x ≡ Ok after → KeepsProperties m after
  pub by_bytes : (m after : DataSpace) (a : ℕ) (xs : List ℕ) → IsSound m
      → bytes_written m a xs ≡ Ok after → KeepsProperties m after
  pub by_fill : (m after : DataSpace) (a n x : ℕ) → IsSound m → filled m a n x ≡ Ok after → KeepsProperties m after
  pub by_copy : (m after : DataSpace) (from to n : ℕ) → IsSound m
      → copied m from to n ≡ Ok after → KeepsProperties m after
  pub by_state : (m : DataSpace) (compiling : Bool) → IsSound m → KeepsProperties m (with_state m compiling)
  -- the data region
  pub by_allot : (m after : DataSpace) (n : ℕ) → allotted m n ≡ Ok after → KeepsProperties m after
  pub by_append : (m after : DataSpace) (xs : List ℕ) (at : ℕ) → IsSound m
      → appended m xs ≡ Ok (at, after) → KeepsProperties m after
  pub by_append_copy : (m after : DataSpace) (a n : ℕ) (tail : List ℕ) (at : ℕ) → IsSound m
      → append_copied m a n tail ≡ Ok (at, after) → KeepsProperties m after
  pub by_zeros : (m after : DataSpace) (n at : ℕ) → IsSound m
      → zeros_allotted m n ≡ Ok (at, after) → KeepsProperties m after
  -- the image region
  pub by_push : (m after : DataSpace) (xs : List ℕ) (at : ℕ) → IsSound m
      → image_pushed m xs ≡ Ok (at, after) → KeepsProperties m after
  pub by_push_from : (m after : DataSpace) (a n s at : ℕ) → IsSound m
      → image_pushed_from m a n s ≡ Ok (at, after) → KeepsProperties m after
  pub by_pop : (m : DataSpace) → IsSound m → KeepsProperties m (image_popped m)
  -- blocks of the heap and of the instance region
  pub by_heap_take : (m after : DataSpace) (n at : ℕ) → IsSound m
      → heap_taken m n ≡ Ok (at, after) → KeepsProperties m after
  pub by_heap_give : (m after : DataSpace) (a n : ℕ) → heap_given m a n ≡ Ok after → KeepsProperties m after
  pub by_instance_take : (m after : DataSpace) (n at : ℕ) → IsSound m
      → instance_taken m n ≡ Ok (at, after) → KeepsProperties m after
  pub by_instance_takes : (m after : DataSpace) (ns at : List Cell) → IsSound m
      → instances_taken m ns ≡ Ok (at, after) → KeepsProperties m after
  pub by_instance_give : (m after : DataSpace) (a n : ℕ) → instance_given m a n ≡ Ok after → KeepsProperties m after
