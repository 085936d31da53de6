use Rattle.std.specs.Prelude.{◌≡◌, false, cond, List, [], ◌∷◌, ◌++◌, map}
use Rattle.std.proofs.Common.{ap, sym, ◌∙◌}
use Rattle.std.proofs.lemmas.List.{map-append}
use Rattle.rcgen_certificate.specs.ExtendedKeyUsages.{Purpose, purpose_of, same_purpose}
use Rattle.rcgen_read.specs.ExtensionReading.{holds}
use Rattle.rcgen_read.proofs.InsertedPurposes.{held_more, inserted_more, was_missing}
use Rattle.rcgen_read.proofs.extended_key_usage.each_once.Goals as goal

pub loop-purpose-preserved-in_ok-push : goal.loop-purpose-preserved-in_ok-push
loop-purpose-preserved-in_ok-push c =
    let p = purpose_of c.in-Some.purpose in
    let ps = map purpose_of c.loop-purpose.once.items in
    let key = c.in_ok-clone.field-0 in
    let missing : holds ps p ≡ false =
    ap (holds ps) (sym c.in_ok-clone.ensures.cases) ∙ was_missing ps (purpose_of key) _ _ c.in_ok-insert.ensures.added (c.loop-purpose.invariant.seen key) c.if-branch.true in
    let more : map purpose_of c.push.new.self.items ≡ ps ++ p ∷ [] =
    ap (map purpose_of) c.in_ok-push.ensures.items ∙ map-append purpose_of c.loop-purpose.once.items (c.in-Some.purpose ∷ []) in
    record {
      once = more ∙ sym (ap (λ b. cond b ps (ps ++ p ∷ [])) missing) ∙ inserted_more c.loop-purpose.yielded c.in-Some.purpose ps c.loop-purpose.invariant.once;
      seen = λ q.
          let tie = c.ties_are_equal.ensures key q ∙ c.purposes_are_same.ensures key q ∙ ap (λ (r : Purpose). same_purpose r (purpose_of q)) c.in_ok-clone.ensures.cases in
          c.in_ok-insert.ensures.updates.0 q ∙ held_more ps p (purpose_of q) _ _ tie (c.loop-purpose.invariant.seen q)
          ∙ ap (λ (l : List Purpose). holds l (purpose_of q)) (sym more);
    }
