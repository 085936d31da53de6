use Rattle.std.proofs.Sketches.{asks}
use Rattle.std.proofs.lemmas.Iterator.Search.{all_from_yields_List}
use Rattle.std.proofs.lemmas.Iterator.Splits.{YieldsList-from_slice_split}
use Rattle.host_name.specs.Hosts.{is_dot, is_label}
use Rattle.host_name.proofs.are_labels.Goals as goal

pub returns : goal.returns
returns c =
    all_from_yields_List is_label _ _ _ c.all.ensures.ran
    (YieldsList-from_slice_split _ is_dot c.args.text.now c.split.ensures.rest c.split.ensures.done c.split.ensures.closure (λ x b q k. search asks))
    (λ x b q k. search asks)
