use Rattle.std.proofs.Common.{◌≡◌, length, map}
use Rattle.of_client.specs.Services.{service_of}
use Rattle.of_commands.specs.Clients.{served_all}
use Rattle.of_commands.proofs.clients.serve.Given as goal

-- the calls that are left lead to the same machine
abbrev pub invariant-loop-rest : goal.invariant-loop-rest
invariant-loop-rest l =
    served_all l.machine (map service_of l.rest) ≡ served_all l.initial.machine (map service_of l.calls)

abbrev pub decreases-loop-rest : goal.decreases-loop-rest
decreases-loop-rest l = length l.rest
