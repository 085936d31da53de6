-- The entries of one certificate more.
use Rattle.std.proofs.Common.{◌≡◌, ◌<◌, ◌+◌, ℕ, get_or, length, take, List, [], ◌∷◌, ◌++◌, Option, Some, None, refl, sym, ap, ◌∙◌}
use Rattle.std.specs.List.{filter_map}
use Rattle.std.specs.Option.{option_to_list}
use Rattle.std.proofs.lemmas.List.{take_more}
use Rattle.std.proofs.lemmas.List.Elements.{filter_map-append}
use Rattle.register_record.specs.Lists.{in_list}
use Rattle.register_record.specs.declared.event.ListKind.{ListKind}
use Rattle.register_record.specs.declared.list.Entry.{Entry}
use Rattle.register_record.specs.declared.state.Base.{Base}
use Rattle.register_record.specs.declared.state.Certificate.{Certificate}

one : (kind : ListKind) (base : Option Base) (o : Option Entry) (c : Certificate) → o ≡ in_list kind base c
    → filter_map (in_list kind base) (c ∷ []) ≡ option_to_list o
one kind base None c e = rw (sym e) refl
one kind base (Some x) c e = rw (sym e) refl

pub one_more : (kind : ListKind) (base : Option Base) (cs : List Certificate) (i : ℕ) (c : Certificate) → i < length cs → c ≡ get_or cs i c
    → (old new : List Entry) (o : Option Entry) → old ≡ filter_map (in_list kind base) (take i cs) → new ≡ old ++ option_to_list o → o ≡ in_list kind base c
    → new ≡ filter_map (in_list kind base) (take (i + 1) cs)
one_more kind base cs i c within at old new o before more is =
    more ∙ ap (λ es. es ++ option_to_list o) before ∙ ap (λ es. filter_map (in_list kind base) (take i cs) ++ es) (sym (one kind base o c is))
    ∙ sym (filter_map-append (in_list kind base) (take i cs) (c ∷ []))
    ∙ ap (λ (x : Certificate). filter_map (in_list kind base) (take i cs ++ x ∷ [])) at
    ∙ ap (filter_map (in_list kind base)) (sym (take_more cs i c within))
