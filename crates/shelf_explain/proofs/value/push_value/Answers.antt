use Rattle.std.proofs.Common.{◌++◌, ℕ, List, false, ap, sym, ◌∙◌}
use Rattle.std.proofs.lemmas.List.{append_assoc}
use Rattle.pkix_name.specs.Characters.{codes_of}
use Rattle.shelf_explain.specs.Values.{value_from, marked}
use Rattle.shelf_explain.proofs.value.push_value.Goals as goal

pub loop-code-preserved : goal.loop-code-preserved
unfolding value_from
loop-code-preserved c =
    let rest : List ℕ = codes_of c.next-in-loop-code.new.self in
    ap (λ (x : List ℕ). x ++ value_from false c.in-Some-code.code rest) c.in_ok-push_marked.ensures
    ∙ append_assoc c.loop-code.lines.items (marked c.loop-code.is_first false c.loop-code.held) (value_from false c.in-Some-code.code rest)
    ∙ ap (λ (xs : List ℕ). c.loop-code.lines.items ++ value_from c.loop-code.is_first c.loop-code.held xs) (sym c.in-Some-code.ensures.steps)
    ∙ c.loop-code.invariant

pub returns : goal.returns
unfolding value_from
returns c =
    c.in_ok-push_marked-2.ensures
    ∙ ap (λ (xs : List ℕ). c.loop-code.lines.items ++ value_from c.loop-code.is_first c.loop-code.held xs) (sym c.in-None.ensures.steps.0)
    ∙ c.loop-code.invariant
