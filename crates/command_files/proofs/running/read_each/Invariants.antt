use Rattle.std.proofs.Common.{◌≡◌, ◌+◌, map, take}
use Rattle.std.specs.List.{AllZip}
use Rattle.command_files.specs.Run.{Is, all_limit, sum_of}
use Rattle.command_files.proofs.running.read_each.Given as goal

abbrev pub invariant-loop-place : goal.invariant-loop-place
invariant-loop-place g l = record {
  each : AllZip (Is (g.I.Inputs.stored l.inputs)) (take l.place l.names) (map (λ bytes. bytes.items) l.found.items);
  all : l.left + sum_of (map (λ bytes. bytes.items) l.found.items) ≡ all_limit;
}
