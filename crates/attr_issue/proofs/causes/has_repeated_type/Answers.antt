use Rattle.std.specs.Prelude.{◌≡◌, ℕ, true, false, nat_eq, List, map, take}
use Rattle.std.specs.Cmp.Lexicographic.{pointwise, slice_cmp}
use Rattle.std.specs.List.{list_any}
use Rattle.std.specs.Ordering.{is_eq, nat_cmp}
use Rattle.std.proofs.Common.{sym, ap, ◌∙◌}
use Rattle.rcgen_certificate.specs.Requests.{given_of}
use Rattle.attr_issue.specs.AttributeCauses.{types_of}
use Rattle.attr_issue.proofs.RepeatedTypes.{seen_more, stands_again, still_apart, was_not_there, was_there}
use Rattle.attr_issue.proofs.causes.has_repeated_type.Goals as goal

pub returns-then-not-branch : goal.returns-then-not-branch
returns-then-not-branch c =
    let list = c.args.attributes.now in
    let i = c.loop-attribute.attribute-index in
    let there : list_any (λ u. pointwise nat_eq u c.as_slice.result.now) (types_of (map given_of (take i list))) ≡ true =
    sym (c.loop-attribute.invariant.seen c.as_slice.result) ∙ was_there _ _ c.in_ok-insert.ensures.added c.if-not-branch.true in
    record {
      value = sym (stands_again list i c.attribute-item.result c.loop-attribute-test.true c.attribute-item.is
          (ap (λ (t : List ℕ). list_any (λ u. pointwise nat_eq u t) (types_of (map given_of (take i list)))) (sym c.as_slice.ensures.value) ∙ there));
    }

pub loop-attribute-preserved : goal.loop-attribute-preserved
loop-attribute-preserved c =
    let list = c.args.attributes.now in
    let i = c.loop-attribute.attribute-index in
    let none : list_any (λ u. pointwise nat_eq u c.as_slice.result.now) (types_of (map given_of (take i list))) ≡ false =
    sym (c.loop-attribute.invariant.seen c.as_slice.result) ∙ was_not_there _ _ c.in_ok-insert.ensures.added c.if-not-branch.false in
    record {
      seen = λ q.
          c.in_ok-insert.ensures.updates.0 q
          ∙ seen_more list i c.attribute-item.result q.now _ _ c.loop-attribute-test.true c.attribute-item.is
          (ap (λ (t : List ℕ). is_eq (slice_cmp nat_cmp t q.now)) c.as_slice.ensures.value) (c.loop-attribute.invariant.seen q);
      apart = still_apart list i c.attribute-item.result c.loop-attribute-test.true c.attribute-item.is c.loop-attribute.invariant.apart
          (ap (λ (t : List ℕ). list_any (λ u. pointwise nat_eq u t) (types_of (map given_of (take i list)))) (sym c.as_slice.ensures.value) ∙ none);
    }
