use Rattle.std.proofs.Sketches.{asks}
use Rattle.std.proofs.lemmas.Iterator.Search.{all_from_yields_List}
use Rattle.std.proofs.lemmas.Iterator.Splits.{YieldsList-from_slice_split}
use Rattle.path_names.specs.Hosts.{begins_with_two_digits, is_percent}
use Rattle.path_names.proofs.uri.each_has_two_digits.Goals as goal

pub returns : goal.returns
returns c =
    all_from_yields_List begins_with_two_digits _ _ _ c.all.ensures.ran
    (YieldsList-from_slice_split _ is_percent c.args.text.now c.split.ensures.rest c.split.ensures.done c.split.ensures.closure (λ x b q k. search asks))
    (λ x b q k. search asks)
