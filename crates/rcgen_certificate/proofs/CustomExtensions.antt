-- Extensions that are given: their equality, as derives write it, and their rows.
use Rattle.std.specs.Prelude.{◌≡◌, ℕ, ◌+◌, ◌<◌, ◌≤◌, map, take, true, List, [], ◌∷◌, ◌++◌, length, refl}
use Rattle.std.specs.Cmp.{bool_eq_equiv}
use Rattle.std.proofs.Common.{sym, ap, ◌∙◌, append_assoc, get_or}
use Rattle.std.proofs.lemmas.Cmp.{nat_list_eq_equiv}
use Rattle.std.proofs.lemmas.List.{map-append, take_all}
use Rattle.std.proofs.lemmas.Simd.{map-map}
use Rattle.pkix_cert.specs.declared.extension.Extension.{Extension}
use Rattle.rcgen_certificate.specs.CustomExtensions.{Custom, custom_of, custom_row}
use Rattle.rcgen_certificate.specs.ExtensionRows.{ExtensionRow, row_of_extension}
use Rattle.rcgen_certificate.specs.contracts.custom_extension.CustomExtensionPartialEq.TheImpl.{ghosts as customs}
use Rattle.rcgen_certificate.specs.declared.custom_extension.CustomExtension.{CustomExtension}
use Rattle.rcgen_certificate.proofs.Rows.{map_more}

-- what has the same view is equal
pub customs_equal : (d e : CustomExtension) → custom_of d ≡ custom_of e → customs.eq d e ≡ true
customs_equal d e h =
    rw (
      ap (λ (c : Custom). c.oid) h,
      ap (λ (c : Custom). c.critical) h,
      ap (λ (c : Custom). c.content) h,
      nat_list_eq_equiv.refl e.oid.items,
      bool_eq_equiv.refl e.critical,
      nat_list_eq_equiv.refl e.content.items,
    ) refl

pub row_of_given : (e : Extension) (g : CustomExtension) → e.extn_id ≡ (custom_of g).oid → e.critical ≡ (custom_of g).critical
    → e.extn_value ≡ (custom_of g).content → row_of_extension e ≡ custom_row (custom_of g)
row_of_given e g a b c = rw (a, b, c) refl

-- one given extension more
pub rows_more : (base : List ExtensionRow) (es fs : List Extension) (e : Extension) (gs : List CustomExtension) (i : ℕ) (g : CustomExtension)
    → i < length gs → g ≡ get_or gs i g → map row_of_extension es ≡ base ++ map (λ c. custom_row (custom_of c)) (take i gs)
    → row_of_extension e ≡ custom_row (custom_of g) → fs ≡ es ++ e ∷ []
    → map row_of_extension fs ≡ base ++ map (λ c. custom_row (custom_of c)) (take (i + 1) gs)
rows_more base es fs e gs i g l k h r f =
    let row : CustomExtension → ExtensionRow = λ c. custom_row (custom_of c) in
    let more : map row (take i gs) ++ row_of_extension e ∷ [] ≡ map row (take (i + 1) gs) =
    map_more row gs i g (map row (take i gs)) _ (row_of_extension e) l k refl r refl in
    ap (map row_of_extension) f ∙ map-append row_of_extension es (e ∷ []) ∙ ap (λ (z : List ExtensionRow). z ++ row_of_extension e ∷ []) h
    ∙ append_assoc base (map row (take i gs)) (row_of_extension e ∷ []) ∙ ap (λ (z : List ExtensionRow). base ++ z) more

-- the loop went over all of them
pub rows_of_all : (base rows : List ExtensionRow) (gs : List CustomExtension) (i : ℕ) → length gs ≤ i
    → rows ≡ base ++ map (λ c. custom_row (custom_of c)) (take i gs) → rows ≡ base ++ map custom_row (map custom_of gs)
rows_of_all base rows gs i l h =
    h ∙ ap (λ (z : List CustomExtension). base ++ map (λ c. custom_row (custom_of c)) z) (take_all i gs l)
    ∙ ap (λ (z : List ExtensionRow). base ++ z) (sym (map-map custom_row custom_of gs))
