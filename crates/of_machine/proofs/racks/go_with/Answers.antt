use Rattle.std.proofs.Common.{ap, ◌∙◌, map}
use Rattle.of_compile.specs.Coding.{Coding}
use Rattle.of_devices.specs.Racks.{Meant}
use Rattle.of_machine.specs.Runs.{Feed}
use Rattle.of_machine.specs.Stretches.{stands}
use Rattle.of_machine.proofs.StretchLemmas.{all_made_with}
use Rattle.of_machine.proofs.racks.go_with.Goals as goal

pub returns-clause-made : goal.returns-clause-made
returns-clause-made g c cut =
    let f : _ → Meant = λ d. (goal.Device-dyn g (d.vtable, d.value)).meant d.value in
    all_made_with c.args.limit (map f c.args.rack.now.items) (map f c.run_with.new.rack.items) c.args.run.now
    c.run_with.new.run _ c.ranges.limit.fits c.in_ok-run_with.ensures.over
    (c.end_of.ensures ∙ ap (λ (x : Feed Coding). stands x) c.run.view_is) cut
