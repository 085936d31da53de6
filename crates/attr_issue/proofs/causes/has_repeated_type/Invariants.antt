use Rattle.std.specs.Prelude.{◌≡◌, ℕ, false, nat_eq, List, map, take}
use Rattle.std.specs.BTreeSet as set
use Rattle.std.specs.Borrow.{Bor}
use Rattle.std.specs.Cmp.Lexicographic.{pointwise, slice_cmp}
use Rattle.std.specs.List.{list_any}
use Rattle.std.specs.Ordering.{nat_cmp}
use Rattle.rcgen_certificate.specs.Requests.{given_of}
use Rattle.attr_issue.specs.AttributeCauses.{is_repeated, types_of}
use Rattle.attr_issue.proofs.causes.has_repeated_type.Given as goal

-- the set has the types so far, of which none occurs twice
abbrev pub invariant-loop-attribute : goal.invariant-loop-attribute
invariant-loop-attribute l = record {
  seen : (q : Bor (List ℕ)) → set.contains (λ x y. slice_cmp nat_cmp x.now y.now) l.types q
      ≡ list_any (λ u. pointwise nat_eq u q.now) (types_of (map given_of (take l.attribute-index l.attributes)));
  apart : is_repeated (types_of (map given_of (take l.attribute-index l.attributes))) ≡ false;
}
