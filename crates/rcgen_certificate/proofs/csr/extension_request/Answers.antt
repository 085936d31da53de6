use Rattle.std.proofs.Common.{ap, ◌∙◌, ℕ, List, [], ◌∷◌}
use Rattle.pkix_cert.specs.Extensions.{extensions}
use Rattle.rcgen_certificate.proofs.Requests.{form_is_one}
use Rattle.rcgen_certificate.proofs.csr.extension_request.Goals as goal

pub only_value-requires : goal.only_value-requires
only_value-requires c =
    rw c.new.ensures (form_is_one extensions c.args.asked.now c.in_ok-value.value.items (rw c.in_ok-value.ensures.value at c.encode.ensures.ok))

pub returns-clause-value : goal.returns-clause-value
returns-clause-value c = record {
  value = c.in_ok-value.value.items;
  form = rw c.in_ok-value.ensures.value at c.encode.ensures.ok;
  attr_type = c.in_ok-attr_type.ensures.arcs;
  values = c.in_ok-values.ensures.value ∙ ap (λ (b : List ℕ). b ∷ []) c.new.ensures;
}
