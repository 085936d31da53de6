use Rattle.std.proofs.Common.{◌≡◌, None, [], ◌∷◌, ◌++◌, arith, ap, sym, ◌∙◌}
use Rattle.std.proofs.lemmas.Grind.{common_steps}
use Rattle.std.specs.BTreeMap as tree
use Rattle.std.specs.Prelude.{Some, cond, length}
use Rattle.asn1_core.specs.IntegerOrder.{integer_cmp}
use Rattle.register_record.specs.Places.{place_of}
use Rattle.register_record.specs.Records.{found}
use Rattle.register_record.proofs.Placed.{one_more}
use Rattle.register_record.proofs.certificates.Certificates.push.Goals as goal

pub invariant_of-self-2 : goal.invariant_of-self-2
invariant_of-self-2 c = λ q.
    let cs = c.self.inside.list.items in
    let new = c.args.certificate in
    let free : found new.serial cs ≡ None = rw (← c.self.view_is) at c.requires in
    let count : c.len-place.result ≡ length cs = c.len-place.ensures ∙ c.reserve.new.self.ok.0 ∙ ap length c.reserve.ensures.items in
    let pushed : c.push.new.self.items ≡ cs ++ new ∷ [] = grind (arith, common_steps) in
    c.in_ok-insert.ensures.updates.0 q
    ∙ ap (λ o. cond (tree.is_at (integer_cmp c.in_ok-serial.serial) q) (Some c.len-place.result) o) (c.self.invariant q)
    ∙ ap (λ s. cond (tree.is_at (integer_cmp s) q) (Some c.len-place.result) (place_of q cs)) c.in_ok-serial.ensures
    ∙ ap (λ n. cond (tree.is_at (integer_cmp new.serial) q) (Some n) (place_of q cs)) count
    ∙ one_more q cs new free ∙ ap (place_of q) (sym pushed)
