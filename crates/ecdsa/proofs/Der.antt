-- What the reader finds in octets is what DER says of them.
use Rattle.std.proofs.Common.{◌≡◌, ℕ, ◌+◌, ◌/◌, ◌%◌, ◌^◌, ◌<◌, ◌≤◌, ◌↔◌, Bool, true, false, cond, ltb, leb, eqb, Some, None, List, [], ◌∷◌, ◌++◌, length, take, drop, length-append, refl, sym, ◌∙◌, ap, arith, inl, inr}
use Rattle.std.proofs.Math.Seq.{take-append_seam, drop-append_seam}
use Rattle.std.proofs.Math.Nat.{pow-le-pow_right}
use Rattle.std.proofs.lemmas.Bool.{cases_Bool, cases_lt, ltb-false, lt-ltb, le-leb, eq-eqb}
use Rattle.std.proofs.lemmas.List.{append_assoc, append-nil}
use Rattle.ecdsa.specs.Signature.{number_of_octets, long_length, read_length, contents_and_rest, read_element, is_natural, natural_and_rest, read_natural, last, read_last_natural, with_s, r_and_s, in_sequence, ecdsa_sig_value}
use Rattle.ecdsa.specs.Der.{length_octets, element, IsInteger, IsSignature}
use Rattle.ecdsa.proofs.OneForm.{pair, octets_read, short_octets, long_octets, element_octets, natural_least, signature_form}

-- ---- a length and an element, read back
taken : {A : Type 0} (b : Bool) (x y : A) → b ≡ true → cond b x y ≡ x
taken true x y h = refl
taken false x y h = absurd (cc)

length_back : (n : ℕ) (zs : List ℕ) → read_length (octets_read n ++ zs) ≡ pair n zs
length_back n zs =
    elim (cases_Bool (ltb n 128)) [
      | inl t ↦
          ap (λ (xs : List ℕ). read_length (xs ++ zs)) (short_octets n t)
          ∙ taken (ltb n 128) (pair n zs) (cond (eqb n 0x81) (long_length zs) None) t
      | inr f ↦
          let l = ltb-false n 128 f in
          let k : 128 ≤ n = omega arith in
          ap (λ (xs : List ℕ). read_length (xs ++ zs)) (long_octets n f) ∙ taken (leb 128 n) (pair n zs) None (le-leb 128 n k)
    ]

contents_back : (contents rest : List ℕ) → contents_and_rest (pair (length contents) (contents ++ rest)) ≡ pair contents rest
contents_back contents rest =
    let m = length contents in
    let xs = contents ++ rest in
    let n = length-append contents rest in
    let l : leb m (length xs) ≡ true = le-leb m (length xs) (omega arith) in
    taken (leb m (length xs)) (pair (take m xs) (drop m xs)) None l
    ∙ ap (λ (zs : List ℕ). pair zs (drop m xs)) (take-append_seam contents rest)
    ∙ ap (λ (zs : List ℕ). pair contents zs) (drop-append_seam contents rest)

element_back : (identifier : ℕ) (contents rest : List ℕ) → read_element identifier (element_octets identifier contents rest) ≡ pair contents rest
unfolding read_element element_octets
element_back identifier contents rest =
    taken (eqb identifier identifier) (contents_and_rest (read_length (octets_read (length contents) ++ (contents ++ rest)))) None
    (eq-eqb identifier identifier refl)
    ∙ ap contents_and_rest (length_back (length contents) (contents ++ rest)) ∙ contents_back contents rest

natural_back : (contents rest : List ℕ) (x : ℕ) → IsInteger x contents → read_natural (element_octets 0x02 contents rest) ≡ pair x rest
unfolding read_natural
natural_back contents rest x h =
    ap natural_and_rest (element_back 0x02 contents rest)
    ∙ taken (is_natural contents) (pair (number_of_octets contents) rest) None h.shortest ∙ ap (λ (z : ℕ). pair z rest) h.number

last_back : (contents : List ℕ) (x : ℕ) → IsInteger x contents → read_last_natural (element_octets 0x02 contents []) ≡ Some x
unfolding read_last_natural
last_back contents x h = ap last (natural_back contents [] x h)

-- ---- an element by its parts, where it is short
short_cases : (a b : Bool) (n : ℕ) (zs : List ℕ) → (a ≡ false → b ≡ true) → cond a (n ∷ []) (cond b (0x81 ∷ n ∷ []) zs) ≡ cond a (n ∷ []) (0x81 ∷ n ∷ [])
short_cases true b n zs h = refl
short_cases false true n zs h = refl
short_cases false false n zs h = absurd (let e : false ≡ true = h refl in (cc))

short_of : (n : ℕ) → n < 256 → length_octets n ≡ octets_read n
unfolding length_octets octets_read
short_of n l = short_cases (ltb n 128) (ltb n 256) n (0x82 ∷ n / 256 ∷ n % 256 ∷ []) (λ f. lt-ltb n 256 l)

element_alone : (identifier : ℕ) (contents : List ℕ) → length contents < 256 → element identifier contents ≡ element_octets identifier contents []
unfolding element_octets
element_alone identifier contents l =
    ap (λ (xs : List ℕ). identifier ∷ (xs ++ contents)) (short_of (length contents) l)
    ∙ ap (λ (xs : List ℕ). identifier ∷ (octets_read (length contents) ++ xs)) (sym (append-nil contents))

element_before : (identifier : ℕ) (contents rest : List ℕ) → length contents < 256
    → element identifier contents ++ rest ≡ element_octets identifier contents rest
unfolding element_octets
element_before identifier contents rest l =
    ap (λ (xs : List ℕ). identifier ∷ (xs ++ contents ++ rest)) (short_of (length contents) l)
    ∙ ap (λ (xs : List ℕ). identifier ∷ xs) (append_assoc (octets_read (length contents)) contents rest)

body_is : (a b : List ℕ) → length a < 256 → length b < 256 → element 0x02 a ++ element 0x02 b ≡ element_octets 0x02 a (element_octets 0x02 b [])
body_is a b l k = element_before 0x02 a (element 0x02 b) l ∙ ap (element_octets 0x02 a) (element_alone 0x02 b k)

-- ---- how long an INTEGER is
integer_short : (contents : List ℕ) (x : ℕ) → is_natural contents ≡ true → number_of_octets contents ≡ x → x < 2 ^ 521 → length contents < 68
integer_short [] x h e l = absurd (cc)
integer_short (a ∷ []) x h e l = omega arith
integer_short (a ∷ b ∷ ys) x h e l =
    let m = natural_least a b ys h in
    elim (cases_lt (length ys) 66) [
      | inl k ↦ omega arith
      | inr k ↦
          let p : 256 ^ 66 ≤ 256 ^ length ys = pow-le-pow_right {n = 256} (omega arith) k in
          absurd (omega (arith, m, p, e, l))
    ]

length_cases : (b : Bool) (n : ℕ) → length (cond b (n ∷ []) (0x81 ∷ n ∷ [])) ≤ 2
length_cases true n = omega arith
length_cases false n = omega arith

octets_length : (n : ℕ) → length (octets_read n) ≤ 2
unfolding octets_read
octets_length n = length_cases (ltb n 128) n

body_short : (a b : List ℕ) → length a < 68 → length b < 68 → length (element_octets 0x02 a (element_octets 0x02 b [])) < 256
unfolding element_octets
body_short a b l k =
    let p = octets_length (length a) in
    let q = octets_length (length b) in
    let e = length-append b [] in
    let f = length-append (octets_read (length b)) (b ++ []) in
    let g = length-append a (0x02 ∷ (octets_read (length b) ++ (b ++ []))) in
    let h = length-append (octets_read (length a)) (a ++ (0x02 ∷ (octets_read (length b) ++ (b ++ [])))) in
    omega (arith, e, f, g, h, p, q)

-- ---- both ways
numbers_back : (a b : List ℕ) (r s : ℕ) → IsInteger r a → IsInteger s b → r_and_s (read_natural (element_octets 0x02 a (element_octets 0x02 b []))) ≡ pair r s
numbers_back a b r s h k =
    ap r_and_s (natural_back a (element_octets 0x02 b []) r h) ∙ ap (with_s r) (last_back b s k)

der_is_read : (octets : List ℕ) (r s : ℕ) → r < 2 ^ 521 → s < 2 ^ 521 → IsSignature r s octets → ecdsa_sig_value octets ≡ Some (r, s)
unfolding ecdsa_sig_value
der_is_read octets r s lr ls h =
    let a = integer_short h.r_contents r h.r_is.shortest h.r_is.number lr in
    let b = integer_short h.s_contents s h.s_is.shortest h.s_is.number ls in
    let body = element_octets 0x02 h.r_contents (element_octets 0x02 h.s_contents []) in
    let e : octets ≡ element_octets 0x30 body [] =
    h.form ∙ ap (element 0x30) (body_is h.r_contents h.s_contents (omega arith) (omega arith))
    ∙ element_alone 0x30 body (body_short h.r_contents h.s_contents a b) in
    ap (λ (xs : List ℕ). in_sequence (read_element 0x30 xs)) e ∙ ap in_sequence (element_back 0x30 body [])
    ∙ numbers_back h.r_contents h.s_contents r s h.r_is h.s_is

read_is_der : (octets : List ℕ) (r s : ℕ) → r < 2 ^ 521 → s < 2 ^ 521 → ecdsa_sig_value octets ≡ Some (r, s) → IsSignature r s octets
read_is_der octets r s lr ls h =
    let f = signature_form octets r s h in
    let a = f.first in
    let b = f.second in
    let la = integer_short a.contents r a.natural a.number lr in
    let lb = integer_short b.contents s b.natural b.number ls in
    let read : f.body ≡ element_octets 0x02 a.contents (element_octets 0x02 b.contents []) = a.form ∙ ap (element_octets 0x02 a.contents) b.form in
    let short : length f.body < 256 = rw read (body_short a.contents b.contents la lb) in
    let body : f.body ≡ element 0x02 a.contents ++ element 0x02 b.contents =
    read ∙ sym (body_is a.contents b.contents (omega arith) (omega arith)) in
    record {
      r_contents = a.contents;
      s_contents = b.contents;
      r_is = record { shortest = a.natural; number = a.number };
      s_is = record { shortest = b.natural; number = b.number };
      form = f.form ∙ sym (element_alone 0x30 f.body short) ∙ ap (element 0x30) body;
    }

pub read_both_ways : (octets : List ℕ) (r s : ℕ) → r < 2 ^ 521 → s < 2 ^ 521 → (ecdsa_sig_value octets ≡ Some (r, s)) ↔ IsSignature r s octets
read_both_ways octets r s lr ls = (read_is_der octets r s lr ls, der_is_read octets r s lr ls)
