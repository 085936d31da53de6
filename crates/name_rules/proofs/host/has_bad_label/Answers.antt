use Rattle.std.proofs.Sketches.{asks}
use Rattle.std.proofs.lemmas.Iterator.Search.{any_from_yields_List}
use Rattle.std.proofs.lemmas.Iterator.Splits.{YieldsList-from_slice_split}
use Rattle.host_name.specs.Hosts.{is_dot}
use Rattle.name_rules.specs.Hosts.{has_label_fault}
use Rattle.name_rules.proofs.host.has_bad_label.Goals as goal

pub returns : goal.returns
returns c =
    any_from_yields_List (has_label_fault c.args.fault) _ _ _ c.any.ensures.ran
    (YieldsList-from_slice_split _ is_dot c.args.text.now c.split.ensures.rest c.split.ensures.done c.split.ensures.closure (λ x b q k. search asks))
    (λ x b q k. search asks)
