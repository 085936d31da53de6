use Rattle.std.specs.Prelude.{◌≡◌, map, string_bytes}
use Rattle.profile_params.proofs.extensions.point.Given as goal

abbrev pub invariant-loop-text : goal.invariant-loop-text
invariant-loop-text l = map string_bytes l.uris.items ≡ l.yielded
