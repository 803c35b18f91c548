-- The regions of the data space: each begins at a multiple of 0x100000.
use Rattle.std.specs.Prelude.{ℕ, ◌+◌, ◌-◌, ◌*◌, ◌/◌, ◌%◌, ◌==◌, Bool, true, false, Option, Some, None, if◌then◌else◌}
use Rattle.of_memory.specs.declared.regions.Region.{Region}
use Rattle.of_memory.specs.declared.regions.Region.TheVariants.{Data, Properties, Instances, Heap, Scratch, Image}

-- how far apart the regions begin
abbrev pub span : ℕ
span = 0x10_0000

-- how many bytes are kept for each region: no region is longer
abbrev pub longest : ℕ
longest = 0x4_0000

-- how many bytes are kept for all six
abbrev pub byte_count : ℕ
byte_count = 0x18_0000

-- where the regions begin and end, and the first address that is free for names and values of properties
abbrev pub data_start : ℕ
data_start = 0x10_0000

abbrev pub data_limit : ℕ
data_limit = 0x14_0000

abbrev pub property_start : ℕ
property_start = 0x20_0000

abbrev pub first_property : ℕ
first_property = 0x20_0010

abbrev pub property_limit : ℕ
property_limit = 0x22_0000

abbrev pub instance_start : ℕ
instance_start = 0x30_0000

abbrev pub instance_limit : ℕ
instance_limit = 0x32_0000

abbrev pub heap_start : ℕ
heap_start = 0x40_0000

abbrev pub heap_limit : ℕ
heap_limit = 0x44_0000

abbrev pub scratch_start : ℕ
scratch_start = 0x50_0000

abbrev pub scratch_limit : ℕ
scratch_limit = 0x50_1000

abbrev pub image_start : ℕ
image_start = 0x60_0000

abbrev pub image_limit : ℕ
image_limit = 0x64_0000

-- how many blocks find room in the instance region
abbrev pub instance_blocks : ℕ
instance_blocks = 16384

-- how many images run at once at most
abbrev pub image_count : ℕ
image_count = 256

-- the region that begins at so many times the span
abbrev pub region_numbered : ℕ → Option Region
region_numbered n =
    if n == 1 then Some Data
    else if n == 2 then Some Properties
    else if n == 3 then Some Instances
    else if n == 4 then Some Heap
    else if n == 5 then Some Scratch
    else if n == 6 then Some Image
    else None

-- the region in whose span an address lies; the address may be past the region's size
abbrev pub region_of : ℕ → Option Region
region_of a = region_numbered (a / span)

-- how many bytes a region has
abbrev pub size_of : Region → ℕ
size_of Data = 0x4_0000
size_of Properties = 0x2_0000
size_of Instances = 0x2_0000
size_of Heap = 0x4_0000
size_of Scratch = 0x1000
size_of Image = 0x4_0000

-- only live blocks can be read or written
abbrev pub is_heap : Region → Bool
is_heap Data = false
is_heap Properties = false
is_heap Instances = false
is_heap Heap = true
is_heap Scratch = false
is_heap Image = false

-- programs may write
abbrev pub is_writable : Region → Bool
is_writable Data = true
is_writable Properties = false
is_writable Instances = true
is_writable Heap = true
is_writable Scratch = true
is_writable Image = false

-- programs may write in the region, if there is one
abbrev pub may_write : Option Region → Bool
may_write None = false
may_write (Some r) = is_writable r

-- Where the byte of an address stands in the list of all bytes, which keeps as many for each region.
abbrev pub place_of : ℕ → ℕ
place_of a = (a / span - 1) * longest + a % span
