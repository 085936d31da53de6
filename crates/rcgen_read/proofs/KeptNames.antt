-- Names that are pushed again: whether they are empty.
use Rattle.std.specs.Prelude.{◌≡◌, Bool, true, false, cond, ◌==◌, List, [], ◌∷◌, fold, length, map, refl}
use Rattle.std.proofs.Common.{sym, ◌∙◌}
use Rattle.rcgen_text.specs.DnTypes.{Kind}
use Rattle.rcgen_text.specs.DnValues.{Text}
use Rattle.rcgen_text.specs.Names.{Entry, all_pushed, has_type, pushed}
use Rattle.rcgen_read.specs.NamesReadBack.{by_arcs}
use Rattle.rcgen_read.proofs.Kept.{not_empty}

pushed_by : (b : Bool) (e : Entry) (es more : List Entry) (x : Entry) → (length (cond b (x ∷ es) (e ∷ more)) == 0) ≡ false
pushed_by true e es more x = not_empty x es
pushed_by false e es more x = not_empty e more

some_pushed : (es : List Entry) (t : Kind) (x : Text) → (length (pushed es t x) == 0) ≡ false
some_pushed [] t x = not_empty {A = Entry} (record { dn_type = t; text = x }) []
some_pushed (e ∷ es) t x = pushed_by (has_type t e) e es (pushed es t x) (record { dn_type = e.dn_type; text = x })

stays : (es more : List Entry) → (length es == 0) ≡ false → (length (fold (λ n e. pushed n e.dn_type e.text) es more) == 0) ≡ false
stays es [] h = h
stays es (e ∷ more) h = stays (pushed es e.dn_type e.text) more (some_pushed es e.dn_type e.text)

-- a name that is read is empty where the one that was written is
pub empty_together : (es : List Entry) → (length (all_pushed (map by_arcs es)) == 0) ≡ (length es == 0)
empty_together [] = refl
empty_together (e ∷ es) =
    stays (pushed [] (by_arcs e).dn_type e.text) (map by_arcs es) (some_pushed [] (by_arcs e).dn_type e.text) ∙ sym (not_empty e es)
