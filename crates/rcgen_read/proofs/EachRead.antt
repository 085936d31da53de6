-- Lists of which each item is read.
use Rattle.std.specs.Prelude.{◌≡◌, Bool, true, List, [], ◌∷◌, ◌++◌, map, Result, Ok, Err, refl}
use Rattle.std.specs.List.{list_all}
use Rattle.std.proofs.Common.{ap, sym, ◌∙◌}
use Rattle.std.proofs.lemmas.List.{append_assoc, append-nil}
use Rattle.asn1_core.specs.Binds.{and_true}
use Rattle.rcgen_text.specs.Causes.{Cause}
use Rattle.rcgen_read.specs.Reading.{and_then, read_each}

pub ok_is : {A : Type 0} (x y : A) → ◌≡◌ {A = Result A Cause} (Ok x) (Ok y) → x ≡ y
ok_is x y e = cc

-- a step that went well, taken apart
pub and_then_ok : {A B : Type 0} (r : Result A Cause) (f : A → Result B Cause) (y : B) → and_then r f ≡ Ok y → (x : A) × (r ≡ Ok x) × (f x ≡ Ok y)
and_then_ok (Ok x) f y e = (x, refl, e)
and_then_ok (Err c) f y e = absurd cc

pub and_then_is : {A B : Type 0} (r : Result A Cause) (f : A → Result B Cause) (x : A) (z : Result B Cause) → r ≡ Ok x → f x ≡ z → and_then r f ≡ z
and_then_is {A} {B} r f x z e h = ap (λ (q : Result A Cause). and_then q f) e ∙ h

module _ {A B : Type 0} (read : A → Result B Cause) (write : B → A) where
  -- what is written of each item that passes is read again
  pub each_read : (passes : B → Bool) (view : B → B) → ((y : B) → passes y ≡ true → read (write y) ≡ Ok (view y)) → (ys bs : List B)
      → list_all passes bs ≡ true → read_each read ys (map write bs) ≡ Ok (ys ++ map view bs)
  each_read passes view h ys [] k = ap (λ (x : List B). Ok x) (sym (append-nil ys))
  each_read passes view h ys (b ∷ bs) k =
      let q = and_true (passes b) (list_all passes bs) k in
      and_then_is (and_then (read (write b)) (λ y. Ok (ys ++ y ∷ []))) (λ t. read_each read t (map write bs)) (ys ++ view b ∷ [])
      (Ok (ys ++ view b ∷ map view bs))
      (and_then_is (read (write b)) (λ y. Ok (ys ++ y ∷ [])) (view b) (Ok (ys ++ view b ∷ [])) (h b q.0) refl)
      (each_read passes view h (ys ++ view b ∷ []) bs q.1 ∙ ap (λ (x : List B). Ok x) (append_assoc ys (view b ∷ []) (map view bs)))

  -- what is read of each item is written so again
  pub each_written : ((x : A) (y : B) → read x ≡ Ok y → write y ≡ x) → (ys zs : List B) (xs : List A) → read_each read ys xs ≡ Ok zs
      → (bs : List B) × (zs ≡ ys ++ bs) × (map write bs ≡ xs)
  each_written h ys zs [] e = ([], sym (ok_is ys zs e) ∙ sym (append-nil ys), refl)
  each_written h ys zs (x ∷ xs) e =
      let p = and_then_ok (and_then (read x) (λ y. Ok (ys ++ y ∷ []))) (λ t. read_each read t xs) zs e in
      let q = and_then_ok (read x) (λ y. Ok (ys ++ y ∷ [])) p.0 p.1 in
      let r = each_written h p.0 zs xs p.2 in
      let front : zs ≡ ys ++ (q.0 ∷ r.0) =
      r.1 ∙ ap (λ (t : List B). t ++ r.0) (sym (ok_is (ys ++ q.0 ∷ []) p.0 q.2)) ∙ append_assoc ys (q.0 ∷ []) r.0 in
      let one : write q.0 ≡ x = h x q.0 q.1 in
      (q.0 ∷ r.0, front, rw (one, r.2) refl)
