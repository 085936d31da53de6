use Rattle.std.specs.Prelude.{◌≡◌, true, take, map}
use Rattle.std.specs.List.{list_all}
use Rattle.rcgen_certificate.specs.SubjectAltNames.{general_name_value}
use Rattle.pkix_name.specs.GeneralNames.{general_name}
use Rattle.rcgen_text.specs.AlternativeNames.{alternative_name}
use Rattle.rcgen_certificate.proofs.subject_alt_name.subject_alt_name.Given as goal

abbrev pub invariant-loop-name : goal.invariant-loop-name
invariant-loop-name l = record {
  values : l.list ≡ map (λ n. general_name_value (alternative_name n)) (take l.name-index l.names);
  formed : list_all general_name.has_tree l.list ≡ true;
}
