-- Extensions that were written by rows, read again.
use Rattle.std.specs.Prelude.{◌≡◌, ℕ, Bool, true, false, ◌==◌, cond, List, [], ◌∷◌, ◌++◌, length, map, Option, Some, None, Result, Ok, Err, is_some}
use Rattle.std.specs.Prelude.{refl}
use Rattle.std.specs.List.{list_all}
use Rattle.std.specs.Option.{option_map}
use Rattle.std.proofs.Common.{ap, sym, ◌∙◌}
use Rattle.asn1_core.specs.Binds.{and_true, bind_some, some_is}
use Rattle.der_tree.specs.Codec.{Codec}
use Rattle.der_tree.specs.Element.{element_octets}
use Rattle.der_tree.specs.Form.{IsDerOf}
use Rattle.der_tree.specs.Tree.{PlainTree}
use Rattle.der_tree.specs.TreeElement.{element_of}
use Rattle.der_tree.specs.declared.error.EncodeError.{EncodeError}
use Rattle.pkix_cert.specs.declared.extension.Extension.{Extension}
use Rattle.rcgen_text.specs.Causes.{Cause, unsupported_extension}
use Rattle.rcgen_certificate.specs.ExtensionRows.{ExtensionRow, extension_row, form_of, form_of_tree, row_of_extension, unless_empty}
use Rattle.rcgen_read.specs.ExtensionReading.{Asked, ask, ask_for, kind_of, read_extensions, nothing_asked}
use Rattle.rcgen_read.specs.Reading.{and_then, try_fold}

-- ---- folds

then_same : {A B : Type 0} (r : Result A Cause) (f g : A → Result B Cause) → ((x : A) → f x ≡ g x) → and_then r f ≡ and_then r g
then_same (Ok x) f g h = h x
then_same (Err c) f g h = refl

-- ---- one row

-- what a row with contents asks for
abbrev ask_contents : Asked → ExtensionRow → Option (List ℕ) → Result Asked Cause
ask_contents s r (Some contents) = ask s (kind_of r.oid) contents
ask_contents s r None = Err unsupported_extension

abbrev pub ask_row : Asked → ExtensionRow → Result Asked Cause
ask_row s r = ask_contents s r r.contents

abbrev pub ask_rows : Asked → List ExtensionRow → Result Asked Cause
ask_rows = try_fold ask_row

asked_one : (s : Asked) (e : Extension) → ask_for s e ≡ ask_row s (row_of_extension e)
unfolding ask_for
asked_one s e = refl

asked_all : (s : Asked) (es : List Extension) → try_fold ask_for s es ≡ ask_rows s (map row_of_extension es)
asked_all s [] = refl
asked_all s (e ∷ es) =
    ap (λ (r : Result Asked Cause). and_then r (λ t. try_fold ask_for t es)) (asked_one s e)
    ∙ then_same (ask_row s (row_of_extension e)) (λ t. try_fold ask_for t es) (λ t. ask_rows t (map row_of_extension es)) (λ t. asked_all t es)

pub asked_by_rows : (es : List Extension) (rows : List ExtensionRow) → map row_of_extension es ≡ rows → read_extensions es ≡ ask_rows nothing_asked rows
unfolding read_extensions
asked_by_rows es rows e = asked_all nothing_asked es ∙ ap (ask_rows nothing_asked) e

go_on : (t : Asked) (xs ys : List ExtensionRow) (r : Result Asked Cause) (q : Result Asked Cause)
    → ((u : Asked) → ask_rows u xs ≡ Ok t → ask_rows u (xs ++ ys) ≡ r) → and_then q (λ u. ask_rows u xs) ≡ Ok t
    → and_then q (λ u. ask_rows u (xs ++ ys)) ≡ r
go_on t xs ys r (Ok u) later e = later u e
go_on t xs ys r (Err c) later e = absurd cc

-- some rows after others
pub after : (s t : Asked) (xs ys : List ExtensionRow) (r : Result Asked Cause) → ask_rows s xs ≡ Ok t → ask_rows t ys ≡ r → ask_rows s (xs ++ ys) ≡ r
after s t [] ys r e h = let same : s ≡ t = cc in ap (λ (z : Asked). ask_rows z ys) same ∙ h
after s t (x ∷ xs) ys r e h = go_on t xs ys r (ask_row s x) (λ u f. after u t xs ys r f h) e

-- ---- rows that extensions are have contents

abbrev pub has_contents : ExtensionRow → Bool
has_contents r = is_some r.contents

pub all_have : (es : List Extension) → list_all has_contents (map row_of_extension es) ≡ true
all_have [] = refl
all_have (e ∷ es) = all_have es

pub parts_have : (xs ys : List ExtensionRow) → list_all has_contents (xs ++ ys) ≡ true
    → (list_all has_contents xs ≡ true) × (list_all has_contents ys ≡ true)
parts_have [] ys h = (refl, h)
parts_have (x ∷ xs) ys h =
    let p = and_true (has_contents x) (list_all has_contents (xs ++ ys)) h in
    let q = parts_have xs ys p.1 in
    (rw (p.0, q.0) refl, q.1)

-- ---- the row of a value

pub by_tree : {A : Type 0} (c : Codec A) (v : A) (b : List ℕ) (r : Result PlainTree EncodeError) → c.tree_of v ≡ r → form_of_tree r ≡ Some b → IsDerOf c v b
by_tree c v b (Ok t) k e =
    let x = bind_some (element_of t) (λ s. Some (element_octets s)) b e in
    (t, x.0, k, x.1, sym (some_is (element_octets x.0) b x.2))
by_tree c v b (Err d) k e = absurd cc

-- a row that has contents asks for what its value says
value_asked : {A : Type 0} (c : Codec A) (v : A) (id : List ℕ) (critical : Bool) (s t : Asked) (o : Option (List ℕ)) → form_of c v ≡ o → is_some o ≡ true
    → ((b : List ℕ) → IsDerOf c v b → ask s (kind_of id) b ≡ Ok t)
    → ask_rows s (record { oid = id; critical = critical; contents = o } ∷ []) ≡ Ok t
value_asked c v id critical s t None e h asks = absurd cc
value_asked c v id critical s t (Some b) e h asks = rw (asks b (by_tree c v b (c.tree_of v) refl e)) refl

pub row_asked : {A : Type 0} (c : Codec A) (v : A) (id : List ℕ) (critical : Bool) (s t : Asked)
    → list_all has_contents (extension_row id critical c (Some v)) ≡ true → ((b : List ℕ) → IsDerOf c v b → ask s (kind_of id) b ≡ Ok t)
    → ask_rows s (extension_row id critical c (Some v)) ≡ Ok t
row_asked c v id critical s t h asks = value_asked c v id critical s t (form_of c v) refl (and_true (is_some (form_of c v)) true h).0 asks

-- the row of a list, which is present where the list isn't empty
part_asked : {A X : Type 0} (c : Codec A) (v : A) (id : List ℕ) (critical : Bool) (s t : Asked) (x : X) (g : X → A) (empty : Bool) → v ≡ g x
    → (empty ≡ true → s ≡ t) → (empty ≡ false → (b : List ℕ) → IsDerOf c v b → ask s (kind_of id) b ≡ Ok t)
    → list_all has_contents (extension_row id critical c (option_map g (cond empty None (Some x)))) ≡ true
    → ask_rows s (extension_row id critical c (option_map g (cond empty None (Some x)))) ≡ Ok t
part_asked c v id critical s t x g true e none asks h = ap (λ (z : Asked). let r : Result Asked Cause = Ok z in r) (none refl)
part_asked c v id critical s t x g false e none asks h =
    row_asked c (g x) id critical s t h (λ b f. asks refl b (rw e f))

pub list_asked : {A X : Type 0} (c : Codec A) (id : List ℕ) (critical : Bool) (s t : Asked) (xs : List X) (g : List X → A)
    → ((length xs == 0) ≡ true → s ≡ t) → ((length xs == 0) ≡ false → (b : List ℕ) → IsDerOf c (g xs) b → ask s (kind_of id) b ≡ Ok t)
    → list_all has_contents (extension_row id critical c (option_map g (unless_empty xs))) ≡ true
    → ask_rows s (extension_row id critical c (option_map g (unless_empty xs))) ≡ Ok t
list_asked c id critical s t xs g none asks h = part_asked c (g xs) id critical s t xs g (length xs == 0) refl none asks h
