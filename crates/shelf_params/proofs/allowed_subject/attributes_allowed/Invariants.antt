use Rattle.std.proofs.Common.{◌≡◌, drop}
use Rattle.shelf_params.specs.AllowedSubjects.{attributes_allowed}
use Rattle.shelf_params.proofs.allowed_subject.attributes_allowed.Given as goal

-- what the rest comes to is what the whole does
abbrev pub invariant-loop-attribute : goal.invariant-loop-attribute
invariant-loop-attribute l = attributes_allowed l.subtrees (drop l.attribute-index l.attributes) ≡ attributes_allowed l.subtrees l.attributes
