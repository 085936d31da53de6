use Rattle.std.proofs.Common.{ap, sym, ◌∙◌}
use Rattle.std.specs.BTreeMap as tree
use Rattle.rcgen_text.specs.contracts.dn_type.DnTypeOrd.TheImpl.{ghosts as order}
use Rattle.rcgen_text.specs.DnTypes.{kind_of}
use Rattle.rcgen_text.specs.DnValues.{text_of}
use Rattle.rcgen_text.specs.Names.{place_of_type}
use Rattle.rcgen_text.proofs.Places.{all_pushed_more, length_seen, noted, still_noted}
use Rattle.rcgen_text.proofs.distinguished_name.DistinguishedName.from_entries.Goals as goal
use Rattle.rcgen_text.proofs.distinguished_name.DistinguishedName.from_entries.Goals.{then-is_none+in_ok-clone+in_ok-insert, else-is_none}

pub loop-ty-preserved : goal.loop-ty-preserved
loop-ty-preserved c =
    let place = c.copied-place.ensures ∙ c.get.ensures.value ∙ c.loop-ty.invariant.1 c.in-Some.ty in (
      all_pushed_more c.loop-ty.yielded c.in-Some.ty c.in-Some.value c.loop-ty.name c.put.new.self c.loop-ty.invariant.0 c.in_ok-put.ensures.ok,
      λ t.
          elim c.if-is_none.branch [
            | then-is_none+in_ok-clone+in_ok-insert w ↦
                ap (λ m. tree.get order.cmp m t) w.places-is ∙ w.in_ok-insert.ensures.updates.0 t
                ∙ noted c.loop-ty.name c.in-Some.ty w.in_ok-clone.field-0 t (text_of c.in-Some.value) _ _ _ _ place w.if-is_none.ensures
                w.in_ok-clone.ensures.cases (c.ties_are_equal.ensures w.in_ok-clone.field-0 t)
                (length_seen w.entries.result.now c.loop-ty.name w.entries.ensures.entries) (c.loop-ty.invariant.1 t)
                ∙ ap (place_of_type (kind_of t)) (sym c.in_ok-put.ensures.ok)
            | else-is_none w ↦
                ap (λ m. tree.get order.cmp m t) w.places-is
                ∙ still_noted c.loop-ty.name c.in-Some.ty t (text_of c.in-Some.value) _ _ place w.if-is_none.ensures (c.loop-ty.invariant.1 t)
                ∙ ap (place_of_type (kind_of t)) (sym c.in_ok-put.ensures.ok)
          ],
    )
