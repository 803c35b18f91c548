-- Which lists are bytes.
use Rattle.std.proofs.Common.{ℕ, ◌<◌, List, [], ◌∷◌, ◌++◌, drop}
use Rattle.std.proofs.lemmas.List.Elements.{All-append, All-cons, All-drop, All-nil, All-take}
use Rattle.of_memory.specs.DataSpace.{DataSpace, IsSound, bytes_from}
use Rattle.of_memory.specs.Regions.{place_of}
use Rattle.of_memory.specs.SoundChanges.{AreBytes}

pub no_bytes : AreBytes []
no_bytes = All-nil (λ b. b < 256)

pub byte_more : (b : ℕ) (xs : List ℕ) → b < 256 → AreBytes xs → AreBytes (b ∷ xs)
byte_more b xs l h = All-cons (λ b. b < 256) b xs l h

pub bytes_joined : (xs ys : List ℕ) → AreBytes xs → AreBytes ys → AreBytes (xs ++ ys)
bytes_joined xs ys h k = All-append (λ b. b < 256) xs ys h k

-- those of a sound data space
pub bytes_there : (m : DataSpace) (a n : ℕ) → IsSound m → AreBytes (bytes_from m a n)
bytes_there m a n sound =
    All-take (λ b. b < 256) n (drop (place_of a) m.bytes) (All-drop (λ b. b < 256) (place_of a) m.bytes sound.small)
