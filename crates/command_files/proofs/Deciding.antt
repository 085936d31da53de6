-- What is stored under the names decides which inputs are read.
use Rattle.std.proofs.Common.{◌≡◌, ◌∙◌, ℕ, zero, suc, ◌+◌, ◌<◌, ◌≤◌, List, [], ◌∷◌, length, take, Option, Some, None, ap, arith, inl, inr, refl, subst, sym}
use Rattle.std.specs.Prelude.{◌⊎◌, slice_get}
use Rattle.std.specs.List.{AllZip}
use Rattle.std.proofs.lemmas.List.Sums.{sum_by-cons}
use Rattle.command_run.specs.Status.{EndsWith, status_of}
use Rattle.command_run.specs.declared.status.Ending.{Ending}
use Rattle.command_run.specs.declared.status.Status.{Status}
use Rattle.command_run.specs.declared.status.Status.TheVariants as status
use Rattle.command_files.specs.Ends.{IsEndStatus}
use Rattle.command_files.specs.Files.{IsLongerThan, IsStored}
use Rattle.command_files.specs.Run.{AreKnown, AreRead, Decides, Is, IsKnown, IsTooMuch, Named, OnInputs, all_limit, sum_of}

stored_is : (o : Option (List ℕ)) (a b : List ℕ) → o ≡ Some a → IsStored o b → b ≡ a
stored_is (Some x) a b e h = sym h ∙ some_is x a e
  where
    some_is : (x a : List ℕ) → Some x ≡ Some a → x ≡ a
    some_is x a e = cc
stored_is None a b e h = cc

both : (x y : List ℕ) (xs ys : List (List ℕ)) → x ≡ y → xs ≡ ys → x ∷ xs ≡ y ∷ ys
both x y xs ys e f = cc

one_list : (stored : List ℕ → Option (List ℕ)) (names : List Named) (known read : List (List ℕ)) → AllZip (IsKnown stored) names known
    → AllZip (Is stored) names read → read ≡ known
one_list stored [] [] [] h k = refl
one_list stored [] [] (y ∷ ys) h k = absurd k
one_list stored [] (x ∷ xs) ys h k = absurd h
one_list stored (n ∷ ns) [] ys h k = absurd h
one_list stored (n ∷ ns) (x ∷ xs) [] h k = absurd k
one_list stored (n ∷ ns) (x ∷ xs) (y ∷ ys) h k = both y x ys xs (stored_is (stored n.name) x y h.0.0 k.0.0) (one_list stored ns xs ys h.1 k.1)

-- the inputs that are read are those that are known
pub read_is_known : (stored : List ℕ → Option (List ℕ)) (names : List Named) (known read : List (List ℕ)) → AreKnown stored names known
    → AreRead stored names read → read ≡ known
read_is_known stored names known read h k = one_list stored names known read h.each k.each

-- the one at a place, and those before it
record At (stored : List ℕ → Option (List ℕ)) (n : Named) (before all : List (List ℕ)) : Type 0 where
  bytes : List ℕ
  is : stored n.name ≡ Some bytes
  within : length bytes ≤ n.limit
  among : sum_of before + length bytes ≤ sum_of all

named_is : (n m : Named) → Some n ≡ Some m → n ≡ m
named_is n m e = cc

at : (stored : List ℕ → Option (List ℕ)) (names : List Named) (known before : List (List ℕ)) (place : ℕ) (n : Named) → AllZip (IsKnown stored) names known
    → slice_get names place ≡ Some n → AllZip (Is stored) (take place names) before → At stored n before known
at stored [] known before place n h e k = cc
at stored (m ∷ ms) [] before place n h e k = absurd h
at stored (m ∷ ms) (x ∷ xs) [] zero n h e k =
    let same : m ≡ n = named_is m n e in
    let s = sum_by-cons (length {A = ℕ}) x xs in
    subst (λ (y : Named). At stored y [] (x ∷ xs)) same (record { bytes = x; is = h.0.0; within = h.0.1; among = omega (arith, s) })
at stored (m ∷ ms) (x ∷ xs) (y ∷ ys) zero n h e k = absurd k
at stored (m ∷ ms) (x ∷ xs) [] (suc place) n h e k = absurd k
at stored (m ∷ ms) (x ∷ xs) (y ∷ ys) (suc place) n h e k =
    let next = at stored ms xs ys place n h.1 e k.1 in
    let same : y ≡ x = stored_is (stored m.name) x y h.0.0 k.0.0 in
    let s = sum_by-cons (length {A = ℕ}) x xs in
    let t = sum_by-cons (length {A = ℕ}) y ys in
    let l : length y ≡ length x = ap (length {A = ℕ}) same in
    record { bytes = next.bytes; is = next.is; within = next.within; among = omega (arith, next.among, s, t, l) }

longer_is : (most : ℕ) (o : Option (List ℕ)) (b : List ℕ) → o ≡ Some b → IsLongerThan most o → most < length b
longer_is most o b e h = subst (IsLongerThan most) e h

-- inputs that are known and within the limits aren't too much
pub not_too_much : (stored : List ℕ → Option (List ℕ)) (names : List Named) (known : List (List ℕ)) → AreKnown stored names known
    → IsTooMuch stored names → ⊥
not_too_much stored names known h t =
    let a = at stored names known t.before t.place t.named h.each t.there t.read in
    let beyond = longer_is t.room (stored t.named.name) a.bytes a.is t.longer in
    elim t.own_or_all as (λ _. ⊥) [
      | inl e ↦ (let w = a.within in omega (arith, beyond, e, w))
      | inr e ↦ (let m = a.among in let l = h.all in omega (arith, beyond, e, m, l))
    ]

one_command : {C : Type 0} (asked : Option C) (c d : C) → asked ≡ Some c → asked ≡ Some d → d ≡ c
one_command asked c d e f = cc

-- the ending of what was read is the one that what is known decides
pub decided : {C : Type 0} (asked : Option C) (stored : List ℕ → Option (List ℕ)) (inputs_of : C → List Named)
    (Gives : C → List (List ℕ) → Ending → List ℕ → List ℕ → Type 0) (c : C) (wanted ending : Ending) (read : List (List ℕ)) (text complaint : List ℕ)
    → asked ≡ Some c → AreRead stored (inputs_of c) read → Gives c read ending text complaint
    → OnInputs asked (λ d. AreKnown stored (inputs_of d)) (λ d inputs. Decides (Gives d inputs) wanted) → ending ≡ wanted
decided {C} asked stored inputs_of Gives c wanted ending read text complaint e h k x =
    let same : x.command ≡ c = one_command asked c x.command e x.named in
    let known : AreKnown stored (inputs_of c) x.inputs = subst (λ (d : C). AreKnown stored (inputs_of d) x.inputs) same x.has in
    let decides : Decides (Gives c x.inputs) wanted = subst (λ (d : C). Decides (Gives d x.inputs) wanted) same x.holds in
    decides ending text complaint
    (subst (λ (i : List (List ℕ)). Gives c i ending text complaint) (read_is_known stored (inputs_of c) x.inputs read known h) k)

-- and then nothing is too long
pub not_too_long : {C : Type 0} (asked : Option C) (stored : List ℕ → Option (List ℕ)) (inputs_of : C → List Named)
    (Gives : C → List (List ℕ) → Ending → List ℕ → List ℕ → Type 0) (c : C) (wanted : Ending)
    → asked ≡ Some c → OnInputs asked (λ d. AreKnown stored (inputs_of d)) (λ d inputs. Decides (Gives d inputs) wanted)
    → IsTooMuch stored (inputs_of c) → ⊥
not_too_long {C} asked stored inputs_of Gives c wanted e x t =
    let same : x.command ≡ c = one_command asked c x.command e x.named in
    let known : AreKnown stored (inputs_of c) x.inputs = subst (λ (d : C). AreKnown stored (inputs_of d) x.inputs) same x.has in
    not_too_much stored (inputs_of c) x.inputs known t

-- how a run ends that was stopped, but not for an input that is too long
pub stopped : (s : Status) (wanted : Ending) → IsEndStatus s → (s ≡ status.TooLong → ⊥)
    → (s ≡ status.ReadFault) ⊎ (s ≡ status.WriteFault) ⊎ EndsWith (status_of wanted) s
stopped s wanted (inl (inl e)) n = inl e
stopped s wanted (inl (inr (inl e))) n = absurd (n e)
stopped s wanted (inl (inr (inr e))) n = inr (inr (inr e))
stopped s wanted (inr (inl e)) n = inr (inl e)
stopped s wanted (inr (inr e)) n = inr (inr (inr e))
