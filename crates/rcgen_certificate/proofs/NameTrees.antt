-- The values of names have trees.
use Rattle.std.specs.Prelude.{◌≡◌, ℕ, ◌+◌, ◌<◌, Bool, map, take, true, List, [], ◌∷◌, ◌++◌, length, is_some}
use Rattle.std.proofs.Common.{sym, ap, ◌∙◌, get_or}
use Rattle.std.specs.List.{list_all}
use Rattle.std.proofs.lemmas.List.{take_more, map-append}
use Rattle.std.proofs.lemmas.List.Elements.{All-get_or}
use Rattle.std.proofs.lemmas.List.Sums.{AllPass-from_list_all}
use Rattle.der_tree.specs.AnyElement.{is_one}
use Rattle.der_tree.specs.Tree.{PlainTree}
use Rattle.der_tree.specs.TreeBytes.{bytes}
use Rattle.der_tree.specs.TreeElement.{element_of}
use Rattle.der_tree.specs.laws.Element.{one_element_again}
use Rattle.der_tree.specs.laws.Results.{some_there}
use Rattle.der_tree.specs.laws.TreeElement.{element_of_encodable}
use Rattle.der_tree.proofs.Writing.{bytes_are}
use Rattle.pkix_name.specs.declared.name.RelativeDistinguishedName.{RelativeDistinguishedName}
use Rattle.rcgen_text.specs.declared.dn_type.DnType.{DnType}
use Rattle.rcgen_text.specs.declared.dn_value.DnValue.{DnValue}
use Rattle.rcgen_text.specs.Names.{entry_of, entries_of}
use Rattle.rcgen_certificate.specs.NameValues.{relative_name}

-- the bytes that were written for a tree are one element
pub written_is_one : (t : PlainTree) (b : List ℕ) → b ≡ bytes t → is_some (element_of t) ≡ true → is_one b ≡ true
written_is_one t b h k =
    let x = some_there (element_of t) k in
    ap is_one (h ∙ bytes_are t x.0 x.1) ∙ ap is_some (one_element_again x.0 (element_of_encodable t x.0 x.1))

-- one attribute more
pub values_more : (es : List (DnType × DnValue)) (i : ℕ) (e : DnType × DnValue) (ps qs : List RelativeDistinguishedName) (p : RelativeDistinguishedName)
    → i < length es → e ≡ get_or es i e → ps ≡ map relative_name (entries_of (take i es)) → p ≡ relative_name (entry_of e) → qs ≡ ps ++ p ∷ []
    → qs ≡ map relative_name (entries_of (take (i + 1) es))
values_more es i e ps qs p l g h k f =
    let step : take (i + 1) es ≡ take i es ++ e ∷ [] = take_more es i e l ∙ ap (λ (x : DnType × DnValue). take i es ++ x ∷ []) (sym g) in
    let entries : entries_of (take (i + 1) es) ≡ entries_of (take i es) ++ entry_of e ∷ [] =
    ap entries_of step ∙ map-append entry_of (take i es) (e ∷ []) in
    let values : map relative_name (entries_of (take (i + 1) es)) ≡ map relative_name (entries_of (take i es)) ++ relative_name (entry_of e) ∷ [] =
    ap (map relative_name) entries ∙ map-append relative_name (entries_of (take i es)) (entry_of e ∷ []) in
    f ∙ ap (λ (x : List RelativeDistinguishedName). x ++ p ∷ []) h
    ∙ ap (λ (x : RelativeDistinguishedName). map relative_name (entries_of (take i es)) ++ x ∷ []) k ∙ sym values

-- an item of a list that passes
pub item_passes : {X : Type 0} (p : X → Bool) (xs : List X) (i : ℕ) (x : X) → i < length xs → x ≡ get_or xs i x → list_all p xs ≡ true → p x ≡ true
item_passes p xs i x l e h = ap p e ∙ All-get_or (λ y. p y ≡ true) xs i x l (AllPass-from_list_all p xs h)
