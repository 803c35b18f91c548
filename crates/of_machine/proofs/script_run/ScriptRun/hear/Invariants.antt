use Rattle.std.proofs.Common.{◌≡◌, length, map}
use Rattle.of_compile.specs.Coding.{Coding}
use Rattle.of_machine.specs.Runs.{Feed, clients_heard, due_of}
use Rattle.of_machine.proofs.script_run.ScriptRun.hear.Given as goal

-- the clients that are left are to be answered as those were that there were at first
abbrev pub invariant-loop-due : goal.invariant-loop-due
invariant-loop-due l =
    let f : Feed Coding = record {
      machine = l.self-inside.machine;
      lines = map (λ v. v.items) l.self-inside.lines.now;
      answers = l.self-inside.answers.now;
      calls = map due_of l.self-inside.calls.now;
    } in
    record { same : clients_heard l.fn.self ≡ clients_heard f }

abbrev pub decreases-loop-due : goal.decreases-loop-due
decreases-loop-due l = length l.self-inside.calls.now
