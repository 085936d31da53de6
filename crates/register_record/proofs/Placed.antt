-- The place of a serial number.
use Rattle.std.proofs.Common.{◌≡◌, ◌<◌, ℕ, suc, Bool, true, false, cond, length, List, [], ◌∷◌, ◌++◌, Option, Some, None, refl, sym, ap, subst, ◌∙◌, arith, get_or, set}
use Rattle.std.specs.Option.{option_map, option_or}
use Rattle.std.specs.Prelude.{Vec}
use Rattle.std.specs.Vec.{vec_len}
use Rattle.std.specs.declared.alloc.Global.{Global}
use Rattle.std.specs.Ordering.{is_eq}
use Rattle.std.specs.Str.{bytes_eq}
use Rattle.asn1_core.specs.IntegerOrder.{integer_cmp, integer_ties}
use Rattle.register_record.specs.Places.{place_of}
use Rattle.register_record.specs.Records.{changed, changed_to, found, has_serial, in_place_of, made_final}
use Rattle.register_record.specs.declared.event.Revocation.{Revocation}
use Rattle.register_record.specs.declared.state.Certificate.{Certificate}
use Rattle.register_record.specs.declared.state.Change.TheVariants.{Revoked}
use Rattle.register_record.proofs.Found.{same_bytes}

-- what is found is at the place
pub at_place : (q : List ℕ) (cs : List Certificate) (p : ℕ) (d : Certificate) → place_of q cs ≡ Some p → (p < length cs) × (found q cs ≡ Some (get_or cs p d))
at_place q [] p d at = absurd (cc)
at_place q (c ∷ cs) p d at = go (has_serial q c) (place_of q cs) (at_place q cs) at
  where
    go : (b : Bool) (o : Option ℕ) → ((i : ℕ) (d : Certificate) → o ≡ Some i → (i < length cs) × (found q cs ≡ Some (get_or cs i d)))
        → cond b (Some 0) (option_map suc o) ≡ Some p → (p < suc (length cs)) × (cond b (Some c) (found q cs) ≡ Some (get_or (c ∷ cs) p d))
    go true o rest e = let first : p ≡ 0 = cc in (omega (arith, first), rw first refl)
    go false None rest e = absurd (cc)
    go false (Some i) rest e =
        let next : p ≡ suc i = cc in
        let more = rest i d refl in
        let h = more.0 in
        (omega (arith, h, next), rw next more.1)

pub place_below : (q : List ℕ) (cs : List Certificate) (p : ℕ) → place_of q cs ≡ Some p → p < length cs
place_below q [] p at = absurd (cc)
place_below q (c ∷ cs) p at = go (has_serial q c) (place_of q cs) (place_below q cs) at
  where
    go : (b : Bool) (o : Option ℕ) → ((i : ℕ) → o ≡ Some i → i < length cs) → cond b (Some 0) (option_map suc o) ≡ Some p → p < suc (length cs)
    go true o rest e = let first : p ≡ 0 = cc in omega (arith, first)
    go false None rest e = absurd (cc)
    go false (Some i) rest e = let next : p ≡ suc i = cc in let h = rest i refl in omega (arith, h, next)

-- within the list that has it
pub within : (q : List ℕ) (v : Vec Certificate Global) (p : ℕ) → place_of q v.items ≡ Some p → p < vec_len v
within q v p at = let h = place_below q v.items p at in let e = v.ok.0 in omega (arith, h, e)

pub nowhere : (q : List ℕ) (cs : List Certificate) → place_of q cs ≡ None → found q cs ≡ None
nowhere q [] at = refl
nowhere q (c ∷ cs) at = go (has_serial q c) (place_of q cs) (nowhere q cs) at
  where
    go : (b : Bool) (o : Option ℕ) → (o ≡ None → found q cs ≡ None) → cond b (Some 0) (option_map suc o) ≡ None → cond b (Some c) (found q cs) ≡ None
    go true o rest e = absurd (cc)
    go false None rest e = rest refl
    go false (Some i) rest e = absurd (cc)

pub not_placed : (q : List ℕ) (cs : List Certificate) → found q cs ≡ None → place_of q cs ≡ None
not_placed q [] at = refl
not_placed q (c ∷ cs) at = go (has_serial q c) (found q cs) (not_placed q cs) at
  where
    go : (b : Bool) (o : Option Certificate) → (o ≡ None → place_of q cs ≡ None) → cond b (Some c) o ≡ None
        → cond b (Some 0) (option_map suc (place_of q cs)) ≡ None
    go true o rest e = absurd (cc)
    go false o rest e = ap (option_map suc) (rest e)

-- ---- one more

place_push : (q : List ℕ) (cs : List Certificate) (c : Certificate)
    → place_of q (cs ++ c ∷ []) ≡ option_or (place_of q cs) (cond (has_serial q c) (Some (length cs)) None)
place_push q [] c = refl
place_push q (x ∷ cs) c = go (has_serial q x) (has_serial q c) (place_of q cs) (place_push q cs c)
  where
    go : (b h : Bool) (o : Option ℕ) → place_of q (cs ++ c ∷ []) ≡ option_or o (cond h (Some (length cs)) None)
        → cond b (Some 0) (option_map suc (place_of q (cs ++ c ∷ []))) ≡ option_or (cond b (Some 0) (option_map suc o)) (cond h (Some (suc (length cs))) None)
    go true h o rest = refl
    go false true None rest = ap (option_map suc) rest
    go false false None rest = ap (option_map suc) rest
    go false h (Some i) rest = ap (option_map suc) rest

or_none : (o : Option ℕ) → o ≡ option_or o None
or_none None = refl
or_none (Some i) = refl

pub one_more : (q : List ℕ) (cs : List Certificate) (c : Certificate) → found c.serial cs ≡ None
    → cond (is_eq (integer_cmp c.serial q)) (Some (length cs)) (place_of q cs) ≡ place_of q (cs ++ c ∷ [])
one_more q cs c none = ap (λ b. cond b (Some (length cs)) (place_of q cs)) (sym (integer_ties c.serial q)) ∙ go (bytes_eq c.serial q) refl
    ∙ sym (place_push q cs c)
  where
    go : (b : Bool) → bytes_eq c.serial q ≡ b → cond b (Some (length cs)) (place_of q cs) ≡ option_or (place_of q cs) (cond b (Some (length cs)) None)
    go true is = sym (ap (λ o. option_or o (Some (length cs))) (subst (λ x. place_of x cs ≡ None) (same_bytes c.serial q is) (not_placed c.serial cs none)))
    go false is = or_none (place_of q cs)

-- ---- a change

pub place_changed : (q s : List ℕ) (f : Certificate → Certificate) (cs : List Certificate) → ((c : Certificate) → (f c).serial ≡ c.serial)
    → place_of q (changed s f cs) ≡ place_of q cs
place_changed q s f [] keeps = refl
place_changed q s f (c ∷ cs) keeps = go (has_serial s c) (place_changed q s f cs keeps)
  where
    go : (b : Bool) → place_of q (changed s f cs) ≡ place_of q cs → place_of q (cond b (f c ∷ cs) (c ∷ changed s f cs)) ≡ place_of q (c ∷ cs)
    go true rest = ap (λ x. cond (bytes_eq x q) (Some 0) (option_map suc (place_of q cs))) (keeps c)
    go false rest = ap (λ o. cond (has_serial q c) (Some 0) (option_map suc o)) rest

pub set_changed : (q : List ℕ) (f : Certificate → Certificate) (cs : List Certificate) (p : ℕ) (d : Certificate) → place_of q cs ≡ Some p
    → set cs p (f (get_or cs p d)) ≡ changed q f cs
set_changed q f [] p d at = absurd (cc)
set_changed q f (c ∷ cs) p d at = go (has_serial q c) (place_of q cs) (set_changed q f cs) at
  where
    go : (b : Bool) (o : Option ℕ) → ((i : ℕ) (d : Certificate) → o ≡ Some i → set cs i (f (get_or cs i d)) ≡ changed q f cs)
        → cond b (Some 0) (option_map suc o) ≡ Some p → set (c ∷ cs) p (f (get_or (c ∷ cs) p d)) ≡ cond b (f c ∷ cs) (c ∷ changed q f cs)
    go true o rest e = let first : p ≡ 0 = cc in rw first refl
    go false None rest e = absurd (cc)
    go false (Some i) rest e = let next : p ≡ suc i = cc in rw next (ap (λ xs. c ∷ xs) (rest i d refl))

pub none_changed : (q : List ℕ) (f : Certificate → Certificate) (cs : List Certificate) → place_of q cs ≡ None → changed q f cs ≡ cs
none_changed q f [] at = refl
none_changed q f (c ∷ cs) at = go (has_serial q c) (place_of q cs) (none_changed q f cs) at
  where
    go : (b : Bool) (o : Option ℕ) → (o ≡ None → changed q f cs ≡ cs) → cond b (Some 0) (option_map suc o) ≡ None
        → cond b (f c ∷ cs) (c ∷ changed q f cs) ≡ c ∷ cs
    go true o rest e = absurd (cc)
    go false None rest e = ap (λ xs. c ∷ xs) (rest refl)
    go false (Some i) rest e = absurd (cc)

-- what is made of the one that is found
pub changed_same : (q : List ℕ) (f g : Certificate → Certificate) (cs : List Certificate) → ((c : Certificate) → found q cs ≡ Some c → f c ≡ g c)
    → changed q f cs ≡ changed q g cs
changed_same q f g [] same = refl
changed_same q f g (c ∷ cs) same = go (has_serial q c) refl (changed_same q f g cs)
  where
    go : (b : Bool) → has_serial q c ≡ b → (((d : Certificate) → found q cs ≡ Some d → f d ≡ g d) → changed q f cs ≡ changed q g cs)
        → cond b (f c ∷ cs) (c ∷ changed q f cs) ≡ cond b (g c ∷ cs) (c ∷ changed q g cs)
    go true is rest = ap (λ x. x ∷ cs) (same c (rw is refl))
    go false is rest = ap (λ xs. c ∷ xs) (rest (λ d at. same d (rw is at)))

pub none_found : (q : List ℕ) (f : Certificate → Certificate) (cs : List Certificate) → found q cs ≡ None → changed q f cs ≡ cs
none_found q f cs at = none_changed q f cs (not_placed q cs at)

-- a hold that is made final, by the status that is found
pub final_same : (q : List ℕ) (r : Revocation) (n : ℕ) (cs : List Certificate) (c : Certificate) → found q cs ≡ Some c
    → changed q (changed_to (Revoked (in_place_of c.change r)) n) cs ≡ changed q (made_final r n) cs
final_same q r n cs c at =
    changed_same q (changed_to (Revoked (in_place_of c.change r)) n) (made_final r n) cs
    (λ d e. let same : c ≡ d = (let w : Some c ≡ Some d = sym at ∙ e in cc) in ap (λ (x : Certificate). changed_to (Revoked (in_place_of x.change r)) n d) same)

-- ---- as code reads and writes an item x at its place

pub found_there : (q : List ℕ) (cs : List Certificate) (p : ℕ) (x : Certificate) → place_of q cs ≡ Some p → x ≡ get_or cs p x → found q cs ≡ Some x
found_there q cs p x at is = (at_place q cs p x at).1 ∙ ap Some (sym is)

pub put_there : (q : List ℕ) (f : Certificate → Certificate) (cs : List Certificate) (p : ℕ) (x : Certificate) → place_of q cs ≡ Some p → x ≡ get_or cs p x
    → set cs p (f x) ≡ changed q f cs
put_there q f cs p x at is = subst (λ y. set cs p (f y) ≡ changed q f cs) (sym is) (set_changed q f cs p x at)

-- the places stay
pub places_stay : (q s : List ℕ) (f : Certificate → Certificate) (cs : List Certificate) (p : ℕ) (x : Certificate) → ((c : Certificate)
    → (f c).serial ≡ c.serial)
    → place_of s cs ≡ Some p → x ≡ get_or cs p x → place_of q (set cs p (f x)) ≡ place_of q cs
places_stay q s f cs p x keeps at is = ap (place_of q) (put_there s f cs p x at is) ∙ place_changed q s f cs keeps
