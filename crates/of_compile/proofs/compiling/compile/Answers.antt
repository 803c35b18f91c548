use Rattle.std.proofs.Common.{subst}
use Rattle.of_compile.specs.Elements.{element_of}
use Rattle.of_compile.specs.Coding.{IsWithin, coding_of}
use Rattle.of_compile.proofs.WithinLemmas.{answered_within, compiled_within}
use Rattle.of_compile.proofs.compiling.compile.Goals as goal

pub compile_fitting-requires-clause-answered : goal.compile_fitting-requires-clause-answered
compile_fitting-requires-clause-answered g c =
    answered_within c.places_stay_within.ensures (element_of c.args.element)
    (coding_of (g.C.CodeStore.code c.args.code.now) c.args.control.now) c.requires.within

pub returns-clause-within : goal.returns-clause-within
returns-clause-within g c =
    subst IsWithin c.compile_fitting.ensures.coding
    (compiled_within c.places_stay_within.ensures (element_of c.args.element)
    (coding_of (g.C.CodeStore.code c.args.code.now) c.args.control.now) c.requires.within)
