-- The data space: its bytes, what is taken of each region, and the map from address to byte.
use Rattle.std.specs.List.{All}
use Rattle.std.specs.Prelude.{ℕ, ◌+◌, ◌≤◌, ◌<◌, ◌≡◌, ◌%◌, Bool, false, ◌&&◌, ◌||◌, not, nat_lt, List, [], ◌∷◌, ◌++◌}
use Rattle.std.specs.Prelude.{length, take, drop, replicate, slice_index, slice_set, Option, Some, None, if◌then◌else◌}
use Rattle.of_memory.specs.Regions.{region_of, size_of, is_heap, place_of, span, byte_count, data_start, data_limit}
use Rattle.of_memory.specs.Regions.{first_property, property_limit, instance_start, instance_limit, heap_start}
use Rattle.of_memory.specs.Regions.{heap_limit, scratch_start, image_start, image_limit, image_count}
use Rattle.of_memory.specs.Blocks.{AreLaid, is_live}
use Rattle.of_memory.specs.declared.blocks.Block.{Block}
use Rattle.of_memory.specs.declared.regions.Region.{Region}

pub record DataSpace : Type 0 where
  -- the bytes of all regions, one region after another
  pub bytes : List ℕ
  -- the next free address of the data region
  pub here : ℕ
  -- where the latest property value ends
  pub properties_end : ℕ
  -- where each image that runs ends, the latest first
  pub images : List ℕ
  -- the live blocks of the heap and of the instance region
  pub heap : List Block
  pub instances : List Block

-- a byte of a region, and of a live block if the region is the heap, can be read
abbrev pub reads_in : DataSpace → ℕ → Option Region → Bool
reads_in m a None = false
reads_in m a (Some r) = nat_lt (a % span) (size_of r) && (not (is_heap r) || is_live m.heap a)

-- the byte of the address can be read
abbrev pub is_readable : DataSpace → ℕ → Bool
is_readable m a = reads_in m a (region_of a)

-- the finite map from address to byte
abbrev pub byte_at : DataSpace → ℕ → Option ℕ
byte_at m a = if is_readable m a then Some (slice_index m.bytes (place_of a)) else None

-- n bytes from the address on
abbrev pub bytes_from : DataSpace → ℕ → ℕ → List ℕ
bytes_from m a n = take n (drop (place_of a) m.bytes)

-- xs with ys in place of as many elements from place i on
abbrev pub splice : List ℕ → ℕ → List ℕ → List ℕ
splice xs i ys = take i xs ++ (ys ++ drop (i + length ys) xs)

-- the data space with these bytes from place i on
abbrev pub with_bytes : DataSpace → ℕ → List ℕ → DataSpace
with_bytes m i ys = record m { bytes = splice m.bytes i ys }

-- the data space with these bytes from the address on
abbrev pub written : DataSpace → ℕ → List ℕ → DataSpace
written m a ys = with_bytes m (place_of a) ys

-- where the image region is free, by the ends of the images that run
abbrev pub free_after : List ℕ → ℕ
free_after [] = image_start
free_after (end ∷ ends) = end

-- each image ends in the region, no earlier than those before it
abbrev pub AreStacked : List ℕ → Type 0
AreStacked [] = Unit {0}
AreStacked (end ∷ ends) =
    (image_start ≤ free_after ends) × (free_after ends ≤ end) × (end ≤ image_limit) × AreStacked ends

-- what is true of each data space
pub record IsSound (m : DataSpace) : Type 0 where
  pub bytes : length m.bytes ≡ byte_count
  pub small : All (λ b. b < 256) m.bytes
  pub here_from : data_start ≤ m.here
  pub here_to : m.here ≤ data_limit
  pub properties_from : first_property ≤ m.properties_end
  pub properties_to : m.properties_end ≤ property_limit
  pub images : AreStacked m.images
  pub few : length m.images ≤ image_count
  pub heap : AreLaid heap_start heap_limit m.heap
  pub instances : AreLaid instance_start instance_limit m.instances

-- so many zeros, but with this value at this place; never computed
unfoldable pub zeros_with : (count place value : ℕ) → List ℕ
zeros_with count place value = slice_set (replicate count 0) place value

-- The data space at first. All bytes are 0, but the last of the cell `base`, where scratch begins, is 16.
unfoldable pub fresh : DataSpace
fresh = record {
  bytes = zeros_with byte_count (place_of (scratch_start + 3)) 16;
  here = data_start;
  properties_end = first_property;
  images = [];
  heap = [];
  instances = [];
}
