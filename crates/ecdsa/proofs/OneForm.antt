-- A signature's two numbers have one form.
use Rattle.std.proofs.Common.{◌≡◌, ℕ, ◌+◌, ◌*◌, ◌^◌, ◌<◌, ◌≤◌, Bool, true, false, cond, not, ◌&&◌, ltb, leb, eqb, Option, Some, None, List, [], ◌∷◌, ◌++◌, length, take, drop, length-take-le, refl, sym, ◌∙◌, ap, arith, inl, inr}
use Rattle.std.proofs.Math.Nat.{pow-zero, pow-le-pow_right, mul-le-mul_right}
use Rattle.std.proofs.lemmas.Bool.{cases_Bool, cases_order, ltb-true, ltb-false, leb-true, le-ltb, eqb-true, eqb-false, and_parts, not-true}
use Rattle.std.proofs.lemmas.List.{take-append-drop}
use Rattle.std.proofs.lemmas.Int.Digits.{number_after_lt}
use Rattle.std.specs.Int.Digits.{number_from_digits_after, AllBelowBase}
use Rattle.ecdsa.specs.Signature.{number_of_octets, long_length, read_length, contents_and_rest, read_element, is_natural, natural_and_rest, read_natural, last, read_last_natural, with_s, r_and_s, in_sequence, ecdsa_sig_value}
use Rattle.ecdsa.proofs.Loading.{after_least}

-- ---- pairs under an option
abbrev pub pair : {A B : Type 0} → A → B → Option (A × B)
pair a b = Some (a, b)

first_is : {A B : Type 0} (a c : A) (b d : B) → pair a b ≡ pair c d → a ≡ c
first_is {A} {B} a c b d h = let s : ◌≡◌ {A = A × B} (a, b) (c, d) = cc in ap (λ (p : A × B). p.0) s

second_is : {A B : Type 0} (a c : A) (b d : B) → pair a b ≡ pair c d → b ≡ d
second_is {A} {B} a c b d h = let s : ◌≡◌ {A = A × B} (a, b) (c, d) = cc in ap (λ (p : A × B). p.1) s

-- ---- the octets of a length that is read
unfoldable pub octets_read : ℕ → List ℕ
octets_read n = cond (ltb n 128) (n ∷ []) (0x81 ∷ n ∷ [])

pub short_octets : (n : ℕ) → ltb n 128 ≡ true → octets_read n ≡ n ∷ []
unfolding octets_read
short_octets n h = rw h refl

pub long_octets : (n : ℕ) → ltb n 128 ≡ false → octets_read n ≡ 0x81 ∷ n ∷ []
unfolding octets_read
long_octets n h = rw h refl

long_of : (b : Bool) (y n : ℕ) (ys rest : List ℕ) → leb 128 y ≡ b → cond b (pair y ys) None ≡ pair n rest → (128 ≤ n) × (y ∷ ys ≡ n ∷ rest)
long_of true y n ys rest t k =
    let e = first_is y n ys rest k in
    let l = leb-true 128 y t in
    (omega arith, ap (λ (z : ℕ). z ∷ ys) e ∙ ap (λ (zs : List ℕ). n ∷ zs) (second_is y n ys rest k))
long_of false y n ys rest f k = absurd (cc)

long_form : (octets rest : List ℕ) (n : ℕ) → long_length octets ≡ pair n rest → (128 ≤ n) × (octets ≡ n ∷ rest)
long_form [] rest n h = absurd (cc)
long_form (y ∷ ys) rest n h = long_of (leb 128 y) y n ys rest refl h

marked_of : (b : Bool) (x n : ℕ) (xs rest : List ℕ) → eqb x 0x81 ≡ b → cond b (long_length xs) None ≡ pair n rest → x ∷ xs ≡ octets_read n ++ rest
marked_of true x n xs rest t k =
    let f = long_form xs rest n k in
    let e = eqb-true x 0x81 t in
    ap (λ (z : ℕ). z ∷ xs) e ∙ ap (λ (zs : List ℕ). 0x81 ∷ zs) f.1 ∙ ap (λ (zs : List ℕ). zs ++ rest) (sym (long_octets n (le-ltb n 128 f.0)))
marked_of false x n xs rest f k = absurd (cc)

length_of : (b : Bool) (x n : ℕ) (xs rest : List ℕ) → ltb x 128 ≡ b → cond b (pair x xs) (cond (eqb x 0x81) (long_length xs) None) ≡ pair n rest
    → x ∷ xs ≡ octets_read n ++ rest
length_of true x n xs rest t k =
    let e = first_is x n xs rest k in
    let s : ltb n 128 ≡ true = rw e at t in
    ap (λ (z : ℕ). z ∷ xs) e ∙ ap (λ (zs : List ℕ). n ∷ zs) (second_is x n xs rest k) ∙ ap (λ (zs : List ℕ). zs ++ rest) (sym (short_octets n s))
length_of false x n xs rest f k = marked_of (eqb x 0x81) x n xs rest refl k

length_form : (octets rest : List ℕ) (n : ℕ) → read_length octets ≡ pair n rest → octets ≡ octets_read n ++ rest
length_form [] rest n h = absurd (cc)
length_form (x ∷ xs) rest n h = length_of (ltb x 128) x n xs rest refl h

-- ---- the octets of an element
unfoldable pub element_octets : ℕ → List ℕ → List ℕ → List ℕ
element_octets identifier contents rest = identifier ∷ (octets_read (length contents) ++ (contents ++ rest))

contents_of : (b : Bool) (n : ℕ) (octets contents rest : List ℕ) → leb n (length octets) ≡ b
    → cond b (pair (take n octets) (drop n octets)) None ≡ pair contents rest → pair n octets ≡ pair (length contents) (contents ++ rest)
contents_of true n octets contents rest t k =
    let e = first_is (take n octets) contents (drop n octets) rest k in
    let f = second_is (take n octets) contents (drop n octets) rest k in
    let l : n ≤ length octets = leb-true n (length octets) t in
    let m : length (take n octets) ≡ n = length-take-le n octets l in
    ap (λ (z : ℕ). pair z octets) (sym m ∙ ap length e)
    ∙ ap (λ (zs : List ℕ). pair (length contents) zs) (sym (take-append-drop n octets) ∙ ap (λ (zs : List ℕ). zs ++ drop n octets) e
    ∙ ap (λ (zs : List ℕ). contents ++ zs) f)
contents_of false n octets contents rest f k = absurd (cc)

contents_form : (o : Option (ℕ × List ℕ)) (contents rest : List ℕ) → contents_and_rest o ≡ pair contents rest
    → o ≡ pair (length contents) (contents ++ rest)
contents_form None contents rest h = absurd (cc)
contents_form (Some (n, octets)) contents rest h = contents_of (leb n (length octets)) n octets contents rest refl h

element_of : (b : Bool) (identifier x : ℕ) (xs contents rest : List ℕ) → eqb x identifier ≡ b
    → cond b (contents_and_rest (read_length xs)) None ≡ pair contents rest → x ∷ xs ≡ element_octets identifier contents rest
unfolding element_octets
element_of true identifier x xs contents rest t k =
    ap (λ (z : ℕ). z ∷ xs) (eqb-true x identifier t)
    ∙ ap (λ (zs : List ℕ). identifier ∷ zs) (length_form xs (contents ++ rest) (length contents) (contents_form (read_length xs) contents rest k))
element_of false identifier x xs contents rest f k = absurd (cc)

element_form : (identifier : ℕ) (octets contents rest : List ℕ) → read_element identifier octets ≡ pair contents rest
    → octets ≡ element_octets identifier contents rest
unfolding read_element
element_form identifier [] contents rest h = absurd (cc)
element_form identifier (x ∷ xs) contents rest h = element_of (eqb x identifier) identifier x xs contents rest refl h

-- ---- an INTEGER
pub record IntegerForm (octets : List ℕ) (x : ℕ) (rest : List ℕ) : Type 0 where
  pub contents : List ℕ
  pub natural : is_natural contents ≡ true
  pub number : number_of_octets contents ≡ x
  pub form : octets ≡ element_octets 0x02 contents rest

natural_of : (b : Bool) (octets contents rest' rest : List ℕ) (x : ℕ) → is_natural contents ≡ b → read_element 0x02 octets ≡ pair contents rest'
    → cond b (pair (number_of_octets contents) rest') None ≡ pair x rest → IntegerForm octets x rest
natural_of true octets contents rest' rest x t h k = record {
  contents = contents;
  natural = t;
  number = first_is (number_of_octets contents) x rest' rest k;
  form = element_form 0x02 octets contents rest' h
      ∙ ap (λ (zs : List ℕ). element_octets 0x02 contents zs) (second_is (number_of_octets contents) x rest' rest k);
}
natural_of false octets contents rest' rest x f h k = absurd (cc)

natural_from : (o : Option (List ℕ × List ℕ)) (octets rest : List ℕ) (x : ℕ) → read_element 0x02 octets ≡ o → natural_and_rest o ≡ pair x rest
    → IntegerForm octets x rest
natural_from None octets rest x h k = absurd (cc)
natural_from (Some (contents, rest')) octets rest x h k = natural_of (is_natural contents) octets contents rest' rest x refl h k

natural_form : (octets rest : List ℕ) (x : ℕ) → read_natural octets ≡ pair x rest → IntegerForm octets x rest
unfolding read_natural
natural_form octets rest x h = natural_from (read_element 0x02 octets) octets rest x refl h

last_is : (o : Option (ℕ × List ℕ)) (x : ℕ) → last o ≡ Some x → o ≡ pair x []
last_is None x h = absurd (cc)
last_is (Some (y, [])) x h = let e : y ≡ x = cc in ap (λ (z : ℕ). pair z []) e
last_is (Some (y, octet ∷ rest)) x h = absurd (cc)

last_form : (octets : List ℕ) (x : ℕ) → read_last_natural octets ≡ Some x → IntegerForm octets x []
unfolding read_last_natural
last_form octets x h = natural_form octets [] x (last_is (read_natural octets) x h)

-- ---- a signature
pub record SignatureForm (octets : List ℕ) (r s : ℕ) : Type 0 where
  pub body : List ℕ
  pub behind_r : List ℕ
  pub form : octets ≡ element_octets 0x30 body []
  pub first : IntegerForm body r behind_r
  pub second : IntegerForm behind_r s []

with_is : (o : Option ℕ) (x r s : ℕ) → with_s x o ≡ pair r s → (x ≡ r) × (o ≡ Some s)
with_is None x r s h = absurd (cc)
with_is (Some y) x r s h = (first_is x r y s h, ap (λ (z : ℕ). Some z) (second_is x r y s h))

numbers_of : (o : Option (ℕ × List ℕ)) (octets body : List ℕ) (r s : ℕ) → octets ≡ element_octets 0x30 body [] → read_natural body ≡ o
    → r_and_s o ≡ pair r s
    → SignatureForm octets r s
numbers_of None octets body r s e h k = absurd (cc)
numbers_of (Some (x, rest)) octets body r s e h k =
    let w = with_is (read_last_natural rest) x r s k in
    record {
      body = body;
      behind_r = rest;
      form = e;
      first = natural_form body rest r (h ∙ ap (λ (z : ℕ). pair z rest) w.0);
      second = last_form rest s w.1;
    }

sequence_of : (o : Option (List ℕ × List ℕ)) (octets : List ℕ) (r s : ℕ) → read_element 0x30 octets ≡ o → in_sequence o ≡ pair r s
    → SignatureForm octets r s
sequence_of None octets r s h k = absurd (cc)
sequence_of (Some (contents, [])) octets r s h k = numbers_of (read_natural contents) octets contents r s (element_form 0x30 octets contents [] h) refl k
sequence_of (Some (contents, octet ∷ rest)) octets r s h k = absurd (cc)

pub signature_form : (octets : List ℕ) (r s : ℕ) → ecdsa_sig_value octets ≡ pair r s → SignatureForm octets r s
unfolding ecdsa_sig_value
signature_form octets r s h = sequence_of (read_element 0x30 octets) octets r s refl h

-- ---- the octets of a number
after_once : (m n : ℕ) (ds es : List ℕ) → length ds ≡ length es → AllBelowBase 256 ds → AllBelowBase 256 es
    → number_from_digits_after 256 m ds ≡ number_from_digits_after 256 n es → (m ≡ n) × (ds ≡ es)
after_once m n [] [] l b c h = (h, refl)
after_once m n [] (e ∷ es) l b c h = absurd (omega arith)
after_once m n (d ∷ ds) [] l b c h = absurd (omega arith)
after_once m n (d ∷ ds) (e ∷ es) l b c h =
    let i = after_once (m * 256 + d) (n * 256 + e) ds es (omega arith) b.1 c.1 h in
    let ld : d < 256 = b.0 in
    let le : e < 256 = c.0 in
    let q = i.0 in
    let same : d ≡ e = omega arith in
    (omega arith, ap (λ (z : ℕ). z ∷ ds) same ∙ ap (λ (zs : List ℕ). e ∷ zs) i.1)

-- how large the number of shortest octets is
natural_most : (x : ℕ) (xs : List ℕ) → AllBelowBase 256 xs → is_natural (x ∷ xs) ≡ true → number_of_octets (x ∷ xs) < 128 * 256 ^ length xs
natural_most x [] b h =
    let l = ltb-true x 128 h in
    let z = pow-zero 256 in
    let e : 128 * 256 ^ 0 ≡ 128 * 1 = ap (λ (k : ℕ). 128 * k) z in
    omega arith
natural_most x (y ∷ ys) b h =
    let l = ltb-true x 128 ((and_parts (ltb x 128) (not (eqb x 0 && ltb y 128)) h).0) in
    let m = number_after_lt 256 (0 * 256 + x) (y ∷ ys) b in
    let g : (0 * 256 + x + 1) * 256 ^ length (y ∷ ys) ≤ 128 * 256 ^ length (y ∷ ys) = mul-le-mul_right (256 ^ length (y ∷ ys)) (omega arith) in
    omega (arith, m, g)

pub natural_least : (x y : ℕ) (ys : List ℕ) → is_natural (x ∷ y ∷ ys) ≡ true → 128 * 256 ^ length ys ≤ number_of_octets (x ∷ y ∷ ys)
natural_least x y ys h =
    let f = not-true (eqb x 0 && ltb y 128) ((and_parts (ltb x 128) (not (eqb x 0 && ltb y 128)) h).1) in
    let a = after_least ((0 * 256 + x) * 256 + y) ys in
    let big : 128 ≤ (0 * 256 + x) * 256 + y =
    elim (cases_Bool (eqb x 0)) [
      | inl t ↦ elim (cases_Bool (ltb y 128)) [
        | inl u ↦ absurd (let g : (eqb x 0 && ltb y 128) ≡ true = rw (t, u) refl in (cc))
        | inr v ↦ let k = ltb-false y 128 v in omega arith
      ]
      | inr u ↦ let k = eqb-false x 0 u in omega arith
    ] in
    let g : 128 * 256 ^ length ys ≤ ((0 * 256 + x) * 256 + y) * 256 ^ length ys = mul-le-mul_right (256 ^ length ys) big in
    omega (arith, a, g)

-- fewer octets write a smaller number
fewer : (xs ys : List ℕ) → length xs < length ys → AllBelowBase 256 xs → is_natural xs ≡ true → is_natural ys ≡ true
    → number_of_octets xs < number_of_octets ys
fewer [] ys l b h k = absurd (cc)
fewer (x ∷ xs) [] l b h k = absurd (cc)
fewer (x ∷ xs) (y ∷ []) l b h k = absurd (omega arith)
fewer (x ∷ xs) (y ∷ z ∷ zs) l b h k =
    let m = natural_most x xs b.1 h in
    let n = natural_least y z zs k in
    let p : 256 ^ length xs ≤ 256 ^ length zs = pow-le-pow_right {n = 256} (omega arith) (omega arith) in
    omega (arith, m, n, p)

natural_once : (xs ys : List ℕ) → AllBelowBase 256 xs → AllBelowBase 256 ys → is_natural xs ≡ true → is_natural ys ≡ true
    → number_of_octets xs ≡ number_of_octets ys → xs ≡ ys
natural_once xs ys b c h k e =
    elim (cases_order (length xs) (length ys)) [
      | inl l ↦ (after_once 0 0 xs ys l b c e).1
      | inr (inl l) ↦ absurd (let f = fewer xs ys l b h k in omega arith)
      | inr (inr l) ↦ absurd (let f = fewer ys xs l c k h in omega arith)
    ]

-- ---- the parts of octets are octets
front_below : (xs ys : List ℕ) → AllBelowBase 256 (xs ++ ys) → AllBelowBase 256 xs
front_below [] ys b = tt
front_below (x ∷ xs) ys b = (b.0, front_below xs ys b.1)

back_below : (xs ys : List ℕ) → AllBelowBase 256 (xs ++ ys) → AllBelowBase 256 ys
back_below [] ys b = b
back_below (x ∷ xs) ys b = back_below xs ys b.1

contents_below : (identifier : ℕ) (octets contents rest : List ℕ) → octets ≡ element_octets identifier contents rest → AllBelowBase 256 octets
    → AllBelowBase 256 contents
unfolding element_octets
contents_below identifier octets contents rest e b =
    let c = rw e at b in
    front_below contents rest (back_below (octets_read (length contents)) (contents ++ rest) c.1)

rest_below : (identifier : ℕ) (octets contents rest : List ℕ) → octets ≡ element_octets identifier contents rest → AllBelowBase 256 octets
    → AllBelowBase 256 rest
unfolding element_octets
rest_below identifier octets contents rest e b =
    let c = rw e at b in
    back_below contents rest (back_below (octets_read (length contents)) (contents ++ rest) c.1)

-- ---- one form
integer_once : (xs ys : List ℕ) (x : ℕ) (rest rest' : List ℕ) → AllBelowBase 256 xs → AllBelowBase 256 ys → IntegerForm xs x rest
    → IntegerForm ys x rest' → rest ≡ rest' → xs ≡ ys
integer_once xs ys x rest rest' b c f g e =
    let same = natural_once f.contents g.contents (contents_below 0x02 xs f.contents rest f.form b) (contents_below 0x02 ys g.contents rest' g.form c)
    f.natural g.natural (f.number ∙ sym g.number) in
    f.form ∙ ap (λ (zs : List ℕ). element_octets 0x02 zs rest) same ∙ ap (λ (zs : List ℕ). element_octets 0x02 g.contents zs) e ∙ sym g.form

pub one_form : (a b : List ℕ) (r s : ℕ) → AllBelowBase 256 a → AllBelowBase 256 b → ecdsa_sig_value a ≡ pair r s → ecdsa_sig_value b ≡ pair r s
    → a ≡ b
one_form a b r s la lb h k =
    let f = signature_form a r s h in
    let g = signature_form b r s k in
    let bf = contents_below 0x30 a f.body [] f.form la in
    let bg = contents_below 0x30 b g.body [] g.form lb in
    let rf = rest_below 0x02 f.body f.first.contents f.behind_r f.first.form bf in
    let rg = rest_below 0x02 g.body g.first.contents g.behind_r g.first.form bg in
    let behind = integer_once f.behind_r g.behind_r s [] [] rf rg f.second g.second refl in
    let body = integer_once f.body g.body r f.behind_r g.behind_r bf bg f.first g.first behind in
    f.form ∙ ap (λ (zs : List ℕ). element_octets 0x30 zs []) body ∙ sym g.form
