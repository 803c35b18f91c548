-- The law of compiling.
use Rattle.std.proofs.Common.{List, IsTrue, sym, subst}
use Rattle.of_code.specs.Code.{Code}
use Rattle.of_control.specs.Openers.{is_all_closed}
use Rattle.of_control.specs.Element.{Element}
use Rattle.of_control.specs.Body.{Body}
use Rattle.of_control.specs.Law.{CallsFollowMatching, ClosedIsRead, CompiledIsFlat, IsBodyIn}
use Rattle.of_compile.specs.declared.element.PlainItem.{PlainItem}
use Rattle.of_compile.specs.Coding.{coding_on}
use Rattle.of_compile.specs.Law.{CompilesReading}
use Rattle.of_compile.proofs.LaidReading.{laid_reading, openers_are, place_in, size_is}
use Rattle.of_compile.proofs.Keeping.{before, kept}

closed_reads :
    ClosedIsRead PlainItem 32 → (base : Code) (es : List (Element PlainItem)) →
    IsTrue (is_all_closed (coding_on base es).openers) → (b : Body PlainItem) × IsBodyIn 32 es b
closed_reads law base es t =
    (law.read (place_in base) es).0 (subst (λ c. IsTrue (is_all_closed c)) (openers_are base es) t)

reads_closed :
    ClosedIsRead PlainItem 32 → (base : Code) (es : List (Element PlainItem)) →
    (b : Body PlainItem) × IsBodyIn 32 es b → IsTrue (is_all_closed (coding_on base es).openers)
reads_closed law base es r =
    subst (λ c. IsTrue (is_all_closed c)) (sym (openers_are base es)) ((law.read (place_in base) es).1 r)

pub compiles_reading :
    CallsFollowMatching PlainItem 32 → ClosedIsRead PlainItem 32 → CompiledIsFlat PlainItem 32 → CompilesReading
compiles_reading calls closed flat = record {
  closed = λ base es. (closed_reads closed base es, reads_closed closed base es);
  laid = laid_reading calls flat;
  size = size_is;
  kept = kept;
  before = before;
}
