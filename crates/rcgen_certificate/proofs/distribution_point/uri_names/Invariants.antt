use Rattle.std.specs.Prelude.{◌≡◌, take, map, string_bytes}
use Rattle.pkix_name.specs.declared.general_name.GeneralName.TheVariants.{Uri}
use Rattle.rcgen_certificate.proofs.distribution_point.uri_names.Given as goal

abbrev pub invariant-loop-uri : goal.invariant-loop-uri
invariant-loop-uri l = (l.names ≡ map (λ s. Uri (string_bytes s)) (take l.uri-index l.uri-items))
