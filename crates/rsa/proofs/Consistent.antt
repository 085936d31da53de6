-- What EMSA-PSS-VERIFY and RSASSA-PSS-VERIFY answer, end by end.
use Rattle.std.proofs.Common.{◌≡◌, ◌≢◌, eqb, leb, get_or, ℕ, ◌+◌, ◌-◌, ◌*◌, ◌<◌, ◌≤◌, Bool, true, false, List, [], ◌++◌, length, take, drop, replicate, refl, sym, ◌∙◌, ap, arith, append-nil, bytes_eq, length-drop}
use Rattle.std.proofs.lemmas.Bool.{le-leb, lt-leb, ne_eqb, eq-eqb}
use Rattle.std.proofs.lemmas.List.{take_all}
use Rattle.std.specs.List.{list_all}
use Rattle.rsa.specs.Pss.{begins_with_zeros, db, emsa_pss_verify, h_len, h_octets, has_padding, hash_of, is_salted, masked_db, mgf1, salted_hash, with_zeros, xor}
use Rattle.rsa.specs.declared.digest.PssHash.{PssHash}

-- ---- DB
pub padding_mark : (hash : PssHash) (db : List ℕ) (size : ℕ) → size ≡ h_len hash
    → list_all (λ octet. eqb octet 0) (take (length db - size - 1) db) ≡ true → eqb (get_or db (length db - size - 1) 0) 1 ≡ has_padding hash db
unfolding has_padding
padding_mark hash db size e h =
    let g : list_all (λ octet. eqb octet 0) (take (length db - h_len hash - 1) db) ≡ true = rw e at h in
    rw (e, g) refl

pub padding_fails : (hash : PssHash) (db : List ℕ) (size : ℕ) (r : Bool) → size ≡ h_len hash
    → r ≡ list_all (λ octet. eqb octet 0) (take (length db - size - 1) db) → r ≡ false → r ≡ has_padding hash db
unfolding has_padding
padding_fails hash db size r e h f =
    let g : list_all (λ octet. eqb octet 0) (take (length db - h_len hash - 1) db) ≡ false = rw e at (sym h ∙ f) in
    rw (f, g) refl

pub no_padding : (hash : PssHash) (message h db : List ℕ) → has_padding hash db ≡ false → false ≡ is_salted hash message h db
unfolding is_salted
no_padding hash message h db f = rw f refl

-- what comes after the first k
pub tail_is : (xs : List ℕ) (k : ℕ) → take (length xs - k) (drop k xs) ≡ drop k xs
tail_is xs k = take_all (length xs - k) (drop k xs) (omega (arith, length-drop {A = ℕ}))

pub by_hash : (hash : PssHash) (message h octets s : List ℕ) (size : ℕ) (r : Bool) → size ≡ h_len hash → has_padding hash octets ≡ true
    → r ≡ bytes_eq h s → s ≡ salted_hash hash message (take (length octets - (length octets - size)) (drop (length octets - size) octets))
    → r ≡ is_salted hash message h octets
unfolding is_salted
by_hash hash message h octets s size r q t e f =
    let g : s ≡ salted_hash hash message (drop (length octets - size) octets) = f ∙ ap (salted_hash hash message) (tail_is octets (length octets - size)) in
    let k : s ≡ salted_hash hash message (drop (length octets - h_len hash) octets) = rw q at g in
    rw t (e ∙ ap (bytes_eq h) k)

pub salted_is : (hash : PssHash) (message salt m d : List ℕ) → m ≡ hash_of hash (message ++ [] ++ [])
    → d ≡ hash_of hash (replicate 8 0 ++ m ++ salt) → d ≡ salted_hash hash message salt
unfolding salted_hash
salted_is hash message salt m d h g =
    let f : m ≡ hash_of hash message = h ∙ ap (hash_of hash) (append-nil (message ++ []) ∙ append-nil message) in
    g ∙ ap (λ (x : List ℕ). hash_of hash (replicate 8 0 ++ x ++ salt)) f

pub db_is : (hash : PssHash) (bits : ℕ) (masked h m new : List ℕ) → new ≡ with_zeros bits m → m ≡ xor masked (mgf1 hash h (length masked))
    → new ≡ db hash bits masked h
unfolding db
db_is hash bits masked h m new e f = e ∙ ap (with_zeros bits) f

-- ---- EMSA-PSS-VERIFY
module _ (hash : PssHash) (message em : List ℕ) (em_bits size : ℕ) (e : size ≡ h_len hash) where
  pub no_room : length em < size + size + 2 → false ≡ emsa_pss_verify hash message em em_bits
  unfolding emsa_pss_verify
  no_room h =
      let f : leb (h_len hash + h_len hash + 2) (length em) ≡ false = lt-leb (h_len hash + h_len hash + 2) (length em) (rw e at h) in
      rw f refl

  room : size + size + 2 ≤ length em → leb (h_len hash + h_len hash + 2) (length em) ≡ true
  room h = le-leb (h_len hash + h_len hash + 2) (length em) (rw e at h)

  pub no_trailer : size + size + 2 ≤ length em → get_or em (length em - 1) 0 ≢ 0xBC → false ≡ emsa_pss_verify hash message em em_bits
  unfolding emsa_pss_verify
  no_trailer h n = rw (room h, ne_eqb (get_or em (length em - 1) 0) 0xBC n) refl

  pub no_zeros : size + size + 2 ≤ length em → get_or em (length em - 1) 0 ≡ 0xBC
      → begins_with_zeros (8 * length em - em_bits) (take (length em - size - 1) em) ≡ false → false ≡ emsa_pss_verify hash message em em_bits
  unfolding emsa_pss_verify
  no_zeros h n f =
      let g : begins_with_zeros (8 * length em - em_bits) (masked_db hash em) ≡ false = rw e at f in
      rw (room h, eq-eqb (get_or em (length em - 1) 0) 0xBC n, g) refl

  pub by_db : (masked h d : List ℕ) (r : Bool) → size + size + 2 ≤ length em → get_or em (length em - 1) 0 ≡ 0xBC
      → begins_with_zeros (8 * length em - em_bits) (take (length em - size - 1) em) ≡ true
      → masked ≡ take (length em - size - 1) em
      → h ≡ take (length em - size - 1 + size - (length em - size - 1)) (drop (length em - size - 1) em)
      → d ≡ db hash (8 * length em - em_bits) masked h
      → r ≡ is_salted hash message h d → r ≡ emsa_pss_verify hash message em em_bits
  unfolding emsa_pss_verify
  by_db masked h d r l n f a b k q =
      let g : begins_with_zeros (8 * length em - em_bits) (masked_db hash em) ≡ true = rw e at f in
      let s : length em - size - 1 + size - (length em - size - 1) ≡ size = omega arith in
      let m : masked ≡ masked_db hash em = rw e at a in
      let o : h ≡ take size (drop (length em - size - 1) em) = rw s at b in
      let p : h ≡ h_octets hash em = rw e at o in
      rw (room l, eq-eqb (get_or em (length em - 1) 0) 0xBC n, g)
      (q ∙ ap (is_salted hash message h) (k ∙ ap (λ (x : List ℕ). db hash (8 * length em - em_bits) x h) m)
      ∙ ap (λ (x : List ℕ). is_salted hash message x (db hash (8 * length em - em_bits) (masked_db hash em) x)) p)
