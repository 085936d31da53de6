use Rattle.std.proofs.Common.{◌-◌, None, drop, length, refl, take}
use Rattle.path_validation.specs.declared.inputs.PathInputs.{PathInputs}
use Rattle.shelf_path.specs.Asked.{asked_of}
use Rattle.shelf_path.specs.RevocationLists.{RevocationData}
use Rattle.shelf_path.proofs.Judging.{asked_is, asked_with, judged}
use Rattle.shelf_path.proofs.verdict.verdict_on.Goals as goal

pub returns : goal.returns
returns c =
    let q = c.args.question in
    let xs = c.args.certificates.now in
    let b : RevocationData = record { lists = c.args.lists.now; issuers = c.args.issuers.now } in
    let trusted = c.in_ok-anchor.anchor in
    let policies = c.in_ok-user_initial_policy_set.user_initial_policy_set in
    let x : PathInputs = record {
      at = c.civil-at.result;
      user_initial_policy_set = policies;
      anchor = trusted;
      initial_policy_mapping_inhibit = q.inhibit_policy_mapping;
      initial_explicit_policy = q.explicit_policy;
      initial_any_policy_inhibit = q.inhibit_any_policy;
      initial_permitted_subtrees = c.new.result;
      initial_excluded_subtrees = c.new-2.result;
      statuses = None;
    } in
    judged x (asked_with q policies trusted (take (length xs - 1) (drop 1 xs)) b) (asked_of q b xs) c.outcome_of.result
    (asked_is q b xs c.anchor-item.result trusted policies c.in-len1-up.len_at_least c.anchor-item.is c.in_ok-anchor.ensures
    c.in_ok-user_initial_policy_set.ensures)
    c.civil-at.ensures (rw (c.new.ensures, c.new-2.ensures) refl) c.outcome_of.ensures
