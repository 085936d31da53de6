use Rattle.std.proofs.Common.{ap, ℕ, ◌∙◌}
use Rattle.std.proofs.lemmas.Iterator.Consumers.{YieldsList-from_first}
use Rattle.pkix_name.specs.Characters.{codes_of}
use Rattle.path_names.specs.Preparation.{is_yes, mapped}
use Rattle.path_names.specs.Significant.{mapped_of}
use Rattle.path_names.proofs.mapped.is_preparable.Goals as goal

pub returns : goal.returns
returns c =
    let all = mapped (codes_of c.args.text) in
    let spelled = YieldsList-from_first (λ (x : ℕ). x) mapped_of all c.new.ensures in
    c.is_yes.ensures ∙ ap is_yes (c.is_nfkc_quick.ensures.value all spelled.runs)
