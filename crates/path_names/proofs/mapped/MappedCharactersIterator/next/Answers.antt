use Rattle.std.proofs.Common.{ap, sym, ◌++◌, ◌∙◌}
use Rattle.pkix_name.specs.Characters.{codes_of}
use Rattle.path_names.specs.Preparation.{mapped}
use Rattle.path_names.proofs.Mapping.{none_in_front}
use Rattle.path_names.proofs.mapped.MappedCharactersIterator.next.Goals as goal

pub loop-code-init : goal.loop-code-init
loop-code-init c =
    let none = none_in_front c.args.self.now.queue.now c.in_default.len_below in
    record { same = sym (ap (λ q. q ++ mapped (codes_of c.args.self.now.rest)) none); empty = none }

pub returns-in-Some-mapped_to-clause-steps : goal.returns-in-Some-mapped_to-clause-steps
returns-in-Some-mapped_to-clause-steps c =
    sym c.loop-code.invariant.same ∙ ap mapped c.in-Some.ensures.steps
    ∙ ap (λ l. l ++ mapped (codes_of c.next.new.self)) c.in-Some-mapped_to.ensures

pub returns-clause-steps : goal.returns-clause-steps
returns-clause-steps c = (
  sym c.loop-code.invariant.same ∙ ap mapped c.in_default-next.ensures.steps.0,
  ap (λ q. q ++ mapped (codes_of c.next.new.self)) c.loop-code.invariant.empty ∙ ap mapped c.in_default-next.ensures.steps.1,
)
