use Rattle.std.proofs.Common.{sym, ap, ◌∙◌}
use Rattle.std.proofs.lemmas.List.Folds.{list_all-map}
use Rattle.asn1_core.specs.Arcs.{is_oid}
use Rattle.rcgen_text.specs.DnTypes.{type_arcs}
use Rattle.rcgen_text.specs.Names.{entry_of}
use Rattle.rcgen_certificate.specs.NameValues.{has_types}
use Rattle.rcgen_certificate.proofs.causes.has_types.Goals as goal

pub returns : goal.returns
returns c =
    c.have_types.ensures ∙ sym (list_all-map (λ e. is_oid (type_arcs e.dn_type)) entry_of c.entries.result.now) ∙ ap has_types c.entries.ensures.entries
