-- The texts of alternative names, name by name.
use Rattle.std.proofs.Common.{◌≡◌, List, map}
use Rattle.std.specs.List.{list_all}
use Rattle.std.proofs.lemmas.List.Folds.{list_all-map}
use Rattle.rcgen_text.specs.AlternativeNames.{alternative_name}
use Rattle.rcgen_text.specs.declared.san.SanType.{SanType}
use Rattle.shelf_params.specs.AskedNames.{is_of_its_kind, is_visible_name}

pub names_seen : (names : List SanType) → list_all is_visible_name (map alternative_name names) ≡ list_all (λ n. is_visible_name (alternative_name n)) names
names_seen names = list_all-map is_visible_name alternative_name names

pub names_kept : (names : List SanType) → list_all is_of_its_kind (map alternative_name names) ≡ list_all (λ n. is_of_its_kind (alternative_name n)) names
names_kept names = list_all-map is_of_its_kind alternative_name names
