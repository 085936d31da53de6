-- Two extensions with one identifier.
use Rattle.std.proofs.Common.{List, not, refl, ◌≡◌}
use Rattle.extension_lookup.proofs.Distinct.{repeats_by}
use Rattle.extension_lookup.specs.Lookup.{are_distinct, extension_ids}
use Rattle.pkix_cert.specs.declared.extension.Extension.{Extension}
use Rattle.pkix_rules.specs.Extensions.{repeats_any}

pub repeats_is : (es : List Extension) → repeats_any es ≡ not (are_distinct (extension_ids es))
repeats_is es = repeats_by (λ (e : Extension). e.extn_id) repeats_any refl (λ e es. refl) es
