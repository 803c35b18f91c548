-- What these words throw has a listed number.
use Rattle.of_stacks.specs.Throws.{ThrowsListed}
use Rattle.of_fcodes.specs.declared.words.PrimitiveWord.{PrimitiveWord}
use Rattle.of_memory.specs.declared.fault.MemFault.{MemFault}
use Rattle.of_stacks.specs.Throws.{is_listed}
use Rattle.std.specs.Prelude.{◌≡◌, true}
use Rattle.of_prims.specs.Data.{Data, throw_of}
use Rattle.of_prims.specs.Prims.{prim_entry}

-- the throws of the table are listed, and so is what a fault of the data space throws
pub record ThrowListedNumbers : Type 0 where
  pub words : (w : PrimitiveWord) (d : Data) → ThrowsListed (prim_entry w d)
  pub faults : (fault : MemFault) → is_listed (throw_of fault) ≡ true
