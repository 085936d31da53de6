use Rattle.std.proofs.Common.{◌≡◌, ◌+◌, ◌*◌, ◌<◌, ◌≤◌, length}
use Rattle.std.specs.Option.{option_map}
use Rattle.toml_format.specs.TimeText.{decimals_at}
use Rattle.toml_format.proofs.time_text.decimals_at.Given as goal

abbrev pub invariant-loop-rest : goal.invariant-loop-rest
invariant-loop-rest l = record {
  sum : option_map (λ x. (l.nanoseconds + x.0, x.1)) (decimals_at l.unit l.rest) ≡ decimals_at 100_000_000 l.bytes;
  room : l.nanoseconds + 10 * l.unit ≤ 1_000_000_000;
  less : l.nanoseconds < 1_000_000_000;
}

abbrev pub decreases-loop-rest : goal.decreases-loop-rest
decreases-loop-rest l = length l.rest
