-- What stays true of a data space when its bytes change.
use Rattle.std.proofs.Common.{◌≡◌, ℕ, List, length}
use Rattle.of_memory.specs.Regions.{byte_count}
use Rattle.of_memory.specs.SoundChanges.{AreBytes}
use Rattle.of_memory.specs.DataSpace.{DataSpace, IsSound}

pub sound_bytes :
    (m : DataSpace) (bs : List ℕ) → IsSound m → length bs ≡ byte_count → AreBytes bs
    → IsSound (record m { bytes = bs })
sound_bytes m bs s len small = record {
  bytes = len;
  small = small;
  here_from = s.here_from;
  here_to = s.here_to;
  properties_from = s.properties_from;
  properties_to = s.properties_to;
  images = s.images;
  few = s.few;
  heap = s.heap;
  instances = s.instances;
}
