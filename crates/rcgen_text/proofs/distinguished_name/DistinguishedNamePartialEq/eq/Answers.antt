use Rattle.std.proofs.Common.{◌∙◌}
use Rattle.rcgen_text.proofs.NameLemmas.{pairs_same}
use Rattle.rcgen_text.proofs.distinguished_name.DistinguishedNamePartialEq.eq.Goals as goal

pub returns : goal.returns
returns c = rw (← c.entries.ensures.entries, ← c.entries-2.ensures.entries) (c.eq.ensures ∙ pairs_same c.entries.result.now c.entries-2.result.now)
