-- Names that are written are read again, and those that are read are written so.
use Rattle.std.specs.Prelude.{◌≡◌, ℕ, true, nat_eq, List, [], ◌∷◌, map, Option, Some, None, Result, Ok, ok_or, refl}
use Rattle.std.specs.Cmp.Lexicographic.{pointwise}
use Rattle.std.specs.List.{list_all, IsDistinct}
use Rattle.std.proofs.Common.{ap, sym, subst, ◌∙◌}
use Rattle.asn1_core.specs.Binds.{and_true}
use Rattle.der_tree.specs.Element.{element_octets, one_element}
use Rattle.der_tree.specs.laws.Element.{one_element_takes}
use Rattle.pkix_name.specs.Names.{name_parts, name_there}
use Rattle.pkix_name.specs.declared.name.AttributeTypeAndValue.{AttributeTypeAndValue}
use Rattle.pkix_name.specs.declared.name.RelativeDistinguishedName.{RelativeDistinguishedName}
use Rattle.pkix_name.specs.declared.name.Name.{Name}
use Rattle.pkix_name.specs.declared.name.Name.TheVariants.{RdnSequence}
use Rattle.rcgen_text.specs.Causes.{Cause, not_certificate}
use Rattle.rcgen_text.specs.DnTypes.{type_arcs, type_of_arcs}
use Rattle.rcgen_text.specs.DnValues.{Text, text_bytes}
use Rattle.rcgen_text.specs.Names.{Entry, HasDistinctTypes, all_pushed}
use Rattle.rcgen_text.proofs.DnTypes.{keeps_arcs}
use Rattle.rcgen_certificate.specs.NameValues.{attribute, relative_name, name_value, text_element}
use Rattle.rcgen_read.specs.NameReading.{read_attribute, read_attributes, read_entries, read_name, read_text}
use Rattle.rcgen_read.specs.NamesReadBack.{by_arcs, has_its_characters, identifiers, is_held, is_slice, HasDistinctOids}
use Rattle.rcgen_read.specs.Reading.{and_then}
use Rattle.rcgen_read.proofs.DistinctNames.{by_identifiers, kept}
use Rattle.rcgen_read.proofs.EachRead.{and_then_is, and_then_ok, each_read, each_written, ok_is}
use Rattle.rcgen_read.proofs.TextElements.{text_again, text_back}

abbrev read_part : RelativeDistinguishedName → Result Entry Cause
read_part part = read_attributes part.0

abbrev of_arcs : List ℕ → Text → Entry
of_arcs arcs x = record { dn_type = type_of_arcs arcs; text = x }

-- ---- written and read

attribute_again : (e : Entry) → is_held e ≡ true → read_part (relative_name e) ≡ Ok (by_arcs e)
attribute_again e h =
    let p = and_true (has_its_characters e.text) (is_slice (text_bytes e.text)) h in
    let t = text_again e.text p.0 p.1 in
    rw (t.0, t.1) refl

pub names_read : (es : List Entry) → list_all is_held es ≡ true → read_name (name_value es) ≡ Ok (all_pushed (map by_arcs es))
names_read es h =
    and_then_is (read_entries (map relative_name es)) (λ xs. Ok (all_pushed xs)) (map by_arcs es) (Ok (all_pushed (map by_arcs es)))
    (each_read read_part relative_name is_held by_arcs attribute_again [] es h) refl

-- ---- read and written

pub one_of : {A : Type 0} (o : Option A) (c : Cause) (x : A) → ok_or o c ≡ Ok x → o ≡ Some x
one_of None c x e = absurd cc
one_of (Some y) c x e = ap (λ z. Some z) (ok_is y x e)

attribute_back : (a : AttributeTypeAndValue) (e : Entry) → read_attribute a ≡ Ok e → attribute e ≡ a
attribute_back a e h =
    let p = and_then_ok (ok_or (one_element a.value) not_certificate) (λ s. and_then (read_text s) (λ x. Ok (of_arcs a.attr_type x))) e h in
    let q = and_then_ok (read_text p.0) (λ x. Ok (of_arcs a.attr_type x)) e p.2 in
    let value : element_octets (text_element q.0) ≡ a.value =
    ap element_octets (text_back p.0 q.0 q.1) ∙ sym (one_element_takes a.value p.0 (one_of (one_element a.value) not_certificate p.0 p.1)).0 in
    let same : attribute (of_arcs a.attr_type q.0) ≡ attribute e = ap attribute (ok_is (of_arcs a.attr_type q.0) e q.2) in
    sym same ∙ rw (keeps_arcs a.attr_type, value) refl

attributes_back : (attributes : List AttributeTypeAndValue) (e : Entry) → read_attributes attributes ≡ Ok e → attribute e ∷ [] ≡ attributes
attributes_back [] e h = absurd cc
attributes_back (a ∷ []) e h = ap (λ (x : AttributeTypeAndValue). x ∷ []) (attribute_back a e h)
attributes_back (a ∷ b ∷ rest) e h = absurd cc

part_back : (p : RelativeDistinguishedName) (e : Entry) → read_part p ≡ Ok e → relative_name e ≡ p
part_back p e h = ap (λ (x : List AttributeTypeAndValue). record { 0 = x }) (attributes_back p.0 e h)

-- the attributes that are read of a name are written as that name
pub entries_written : (n : Name) (es : List Entry) → read_entries (name_parts n) ≡ Ok es → name_value es ≡ n
entries_written n es h =
    let w = each_written read_part relative_name part_back [] es (name_parts n) h in
    ap (λ (x : List Entry). RdnSequence (map relative_name x)) w.1 ∙ ap (λ (x : List RelativeDistinguishedName). RdnSequence x) w.2 ∙ name_there n

-- ---- where no identifier occurs twice

identifiers_are : (es : List Entry) → identifiers (name_value es) ≡ map (λ e. type_arcs e.dn_type) es
identifiers_are [] = refl
identifiers_are (e ∷ es) = ap (λ (x : List (List ℕ)). type_arcs e.dn_type ∷ x) (identifiers_are es)

distinct_types : (es : List Entry) → HasDistinctOids (name_value es) → HasDistinctTypes es
distinct_types es h = by_identifiers es (subst (IsDistinct (pointwise nat_eq)) (identifiers_are es) h)

pub names_written : (n : Name) (es : List Entry) → read_name n ≡ Ok es → HasDistinctOids n → name_value es ≡ n
names_written n es h distinct =
    let p = and_then_ok (read_entries (name_parts n)) (λ xs. Ok (all_pushed xs)) es h in
    let written = entries_written n p.0 p.1 in
    let same : p.0 ≡ es =
    sym (kept p.0 (distinct_types p.0 (subst HasDistinctOids (sym written) distinct))) ∙ ok_is (all_pushed p.0) es p.2 in
    sym (ap name_value same) ∙ written

each_same : (es : List Entry) → map relative_name (map by_arcs es) ≡ map relative_name es
each_same [] = refl
each_same (e ∷ es) = rw (keeps_arcs (type_arcs e.dn_type), each_same es) refl

pub same_parts : (es : List Entry) → name_value (map by_arcs es) ≡ name_value es
same_parts es = ap (λ (x : List RelativeDistinguishedName). RdnSequence x) (each_same es)

pub distinct_names_read : (es : List Entry) → list_all is_held es ≡ true → HasDistinctOids (name_value es)
    → read_name (name_value es) ≡ Ok (map by_arcs es)
distinct_names_read es h distinct =
    names_read es h
    ∙ ap (λ (x : List Entry). Ok x) (kept (map by_arcs es) (distinct_types (map by_arcs es) (subst HasDistinctOids (sym (same_parts es)) distinct)))
