use Rattle.std.proofs.Common.{◌≡◌, ◌++◌, map, drop, ℕ, List}
use Rattle.crl_index.specs.Search.{first_place}
use Rattle.path_cases.proofs.places.places_counted.Given as goal

abbrev pub invariant-loop-serial : goal.invariant-loop-serial
invariant-loop-serial g l = l.places.items ++ map (λ (serial : List ℕ). first_place serial l.list.tbs_cert_list.revoked_certificates) (drop l.serial-index l.serials) ≡ map (λ (serial : List ℕ). first_place serial l.list.tbs_cert_list.revoked_certificates) l.serials
