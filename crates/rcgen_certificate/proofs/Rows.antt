-- Rows of tables of extensions, and what their values are made of.
use Rattle.std.specs.Prelude.{◌≡◌, ℕ, ◌+◌, ◌%◌, ◌<◌, map, take, Bool, true, length, List, [], ◌∷◌, ◌++◌, Some}
use Rattle.std.specs.Prelude.{Option, None, Result, Ok, Err, refl}
use Rattle.std.specs.Char.{is_ascii}
use Rattle.std.specs.List.{list_all, take_while}
use Rattle.std.proofs.Common.{sym, ap, ◌∙◌, get_or, eq-eqb}
use Rattle.std.proofs.Math.Nat.{mod-one}
use Rattle.std.proofs.lemmas.List.{take_more, take_all, map-append}
use Rattle.std.proofs.lemmas.List.Folds.{list_all-append, list_all-map, list_all_more}
use Rattle.std.proofs.lemmas.List.Sums.{take_while-cons}
use Rattle.asn1_core.specs.Arcs.{is_oid}
use Rattle.asn1_core.specs.Binds.{and_true, bind_some, some_is}
use Rattle.asn1_core.specs.StringTypes.{ia5}
use Rattle.asn1_core.specs.Texts.{fault_of}
use Rattle.der_tree.specs.Codec.{Codec}
use Rattle.der_tree.specs.Element.{element_octets}
use Rattle.der_tree.specs.Form.{IsDerOf}
use Rattle.der_tree.specs.Tree.{PlainTree}
use Rattle.der_tree.specs.TreeElement.{element_of}
use Rattle.der_tree.specs.declared.error.EncodeError.{EncodeError}
use Rattle.rcgen_sign.specs.Keys.{Key}
use Rattle.rcgen_text.specs.Strings.{is_ia5}
use Rattle.rcgen_certificate.specs.CustomExtensions.{Custom, custom_row, has_custom_oid}
use Rattle.rcgen_certificate.specs.IssuedExtensions.{extension_rows}
use Rattle.rcgen_certificate.specs.Issuers.{IssuerView}
use Rattle.rcgen_certificate.specs.ParamsView.{ParamsView}
use Rattle.rcgen_certificate.specs.ExtensionRows.{ExtensionRow, are_named, extension_row, form_of, form_of_tree}

pub form_of_is : {A : Type 0} (c : Codec A) (v : A) (b : List ℕ) → IsDerOf c v b → form_of c v ≡ Some b
form_of_is c v b f = rw (f.2, f.3) (ap (λ (x : List ℕ). Some x) (sym f.4))

pub ruleset form_is = (form_of_is)

by_tree : {A : Type 0} (c : Codec A) (v : A) (b : List ℕ) (r : Result PlainTree EncodeError) → c.tree_of v ≡ r → form_of_tree r ≡ Some b → IsDerOf c v b
by_tree c v b (Ok t) k e =
    let x = bind_some (element_of t) (λ s. Some (element_octets s)) b e in
    (t, x.0, k, x.1, sym (some_is (element_octets x.0) b x.2))
by_tree c v b (Err d) k e = absurd cc

pub is_form : {A : Type 0} (c : Codec A) (v : A) (b : List ℕ) → form_of c v ≡ Some b → IsDerOf c v b
is_form c v b e = by_tree c v b (c.tree_of v) refl e

-- ---- rows of object identifiers

pub row_named : {A : Type 0} (oid : List ℕ) (critical : Bool) (c : Codec A) (o : Option A) → is_oid oid ≡ true
    → are_named (extension_row oid critical c o) ≡ true
row_named oid critical c None h = refl
row_named oid critical c (Some v) h = rw h refl

pub customs_named : (cs : List Custom) → list_all has_custom_oid cs ≡ true → are_named (map custom_row cs) ≡ true
customs_named cs h = list_all-map (λ r. is_oid r.oid) custom_row cs ∙ h

pub both_named : (a b : List ExtensionRow) → are_named a ≡ true → are_named b ≡ true → are_named (a ++ b) ≡ true
both_named a b h k = list_all-append (λ r. is_oid r.oid) a b ∙ rw (h, k) refl

pub ruleset named = (row_named, customs_named, both_named)

-- so are those of certificates
pub extension_rows_named : (params : ParamsView) (subject : Key) (issuer : IssuerView) → list_all has_custom_oid params.custom_extensions ≡ true
    → are_named (extension_rows params subject issuer) ≡ true
extension_rows_named params subject issuer h = simp (list_all-append, row_named, customs_named params.custom_extensions h)

-- ---- values

-- one value more
pub map_more : {X Y : Type 0} (f : X → Y) (xs : List X) (i : ℕ) (x : X) (ys zs : List Y) (y : Y) → i < length xs → x ≡ get_or xs i x
    → ys ≡ map f (take i xs) → y ≡ f x → zs ≡ ys ++ y ∷ [] → zs ≡ map f (take (i + 1) xs)
map_more {X} {Y} f xs i x ys zs y l g h k e =
    let step : take (i + 1) xs ≡ take i xs ++ x ∷ [] = take_more xs i x l ∙ ap (λ (z : X). take i xs ++ z ∷ []) (sym g) in
    let mapped : map f (take (i + 1) xs) ≡ map f (take i xs) ++ f x ∷ [] = ap (map f) step ∙ map-append f (take i xs) (x ∷ []) in
    e ∙ ap (λ (z : List Y). z ++ y ∷ []) h ∙ ap (λ (z : Y). map f (take i xs) ++ z ∷ []) k ∙ sym mapped

-- ---- texts

all_taken : (p : ℕ → Bool) (xs : List ℕ) → list_all p xs ≡ true → take_while p xs ≡ xs
all_taken p [] h = refl
all_taken p (x ∷ xs) h =
    let k = and_true (p x) (list_all p xs) h in
    take_while-cons p x xs ∙ rw k.0 (ap (λ (z : List ℕ). x ∷ z) (all_taken p xs k.1))

-- ASCII has no fault
pub no_fault_of : (text : List ℕ) → list_all is_ia5 text ≡ true → fault_of ia5 text ≡ None
no_fault_of text h =
    rw (
      eq-eqb (length text % 1) 0 (mod-one (length text)),
      eq-eqb (length (take_while is_ascii text)) (length text) (ap length (all_taken is_ascii text h)),
    ) refl

pub ruleset no_fault = (no_fault_of)

pub ruleset taken = (list_all_more, take_all)
