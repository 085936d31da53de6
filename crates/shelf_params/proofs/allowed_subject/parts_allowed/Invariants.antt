use Rattle.std.proofs.Common.{◌≡◌, drop}
use Rattle.shelf_params.specs.AllowedSubjects.{parts_allowed}
use Rattle.shelf_params.proofs.allowed_subject.parts_allowed.Given as goal

-- what the rest comes to is what the whole does
abbrev pub invariant-loop-part : goal.invariant-loop-part
invariant-loop-part l = parts_allowed l.subtrees (drop l.part-index l.parts) ≡ parts_allowed l.subtrees l.parts
