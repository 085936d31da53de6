use Rattle.std.proofs.Common.{◌≡◌, false, rules, sym, true, ◌∙◌}
use Rattle.register_steps.proofs.Trees.{algorithm_has_tree}
use Rattle.register_steps.proofs.sealing.verified.Goals as goal

pub encoded-requires : goal.encoded-requires
encoded-requires c = algorithm_has_tree c.args.message.now c.in-Some-2.algorithm (sym c.in_ok-algorithm.ensures ∙ c.in-Some-2.is)

pub returns-then-not-is_accepted-clause-why : goal.returns-then-not-is_accepted-clause-why
returns-then-not-is_accepted-clause-why c =
    let verdict = rw (c.key_info.ensures, c.as_slice.ensures.value) at c.is_accepted.ensures in
    let refused : c.is_accepted.result ≡ false = search rules in (
      c.in-Some-2.algorithm,
      record {
        parts = c.in-Some.view;
        issuer_is = sym c.in-Some.ensures.parts;
        algorithm_is = sym c.in_ok-algorithm.ensures ∙ c.in-Some-2.is;
        algorithm_octets = c.in_ok-name.name.items;
        algorithm_form = c.in_ok-name.ensures;
        verdict_is = sym verdict ∙ refused;
      },
    )

pub returns-clause-ok : goal.returns-clause-ok
returns-clause-ok c =
    let verdict = rw (c.key_info.ensures, c.as_slice.ensures.value) at c.is_accepted.ensures in
    let accepted : c.is_accepted.result ≡ true = search rules in
    record {
      parts = c.in-Some.view;
      issuer_is = sym c.in-Some.ensures.parts;
      algorithm_is = sym c.in_ok-algorithm.ensures ∙ c.in-Some-2.is;
      algorithm_octets = c.in_ok-name.name.items;
      algorithm_form = c.in_ok-name.ensures;
      verdict_is = sym verdict ∙ accepted;
    }
