-- What blocks are read as, one after another.
use Rattle.std.proofs.Common.{◌≡◌, ◌∙◌, ◌<◌, ◌+◌, ℕ, suc, List, [], ◌∷◌, ◌++◌, length, drop, get_or, Result, Ok, Err, ap, sym, refl, append_assoc}
use Rattle.std.proofs.lemmas.List.{drop_more}
use Rattle.pem.specs.Encoding.{Encoding}
use Rattle.shelf_fault.specs.Faults.{and_then}
use Rattle.shelf_fault.specs.declared.fault.Fault.{Fault}
use Rattle.shelf_path.specs.Certificates.{each_behind}
use Rattle.shelf_path.specs.RevocationLists.{RevocationData, lists_behind, with_block}
use Rattle.shelf_path.proofs.Lists.{behind}

-- how a block is read by its number
abbrev pub Reads : Type 0 → Type 0
Reads A = ℕ → Encoding → Result A Fault

-- what follows what a block is read as
abbrev pub with_first : {A : Type 0} → Reads A → ℕ → List Encoding → Result A Fault → Result (List A) Fault
with_first read number rest first = and_then first (λ x. and_then (each_behind read number rest) (λ xs. Ok (x ∷ xs)))

-- what is left begins with the block here
here : (blocks : List Encoding) (index : ℕ) (e : Encoding) → index < length blocks → e ≡ get_or blocks index e
    → drop index blocks ≡ e ∷ drop (index + 1) blocks
here blocks index e bound is = drop_more blocks index e bound ∙ ap (λ (x : Encoding). x ∷ drop (index + 1) blocks) (sym is)

from_here : {A : Type 0} (read : Reads A) (number next : ℕ) (blocks : List Encoding) (index : ℕ) (e : Encoding) (r : Result A Fault)
    → index < length blocks → e ≡ get_or blocks index e → suc number ≡ next → read next e ≡ r
    → each_behind read number (drop index blocks) ≡ with_first read next (drop (index + 1) blocks) r
from_here read number next blocks index e r bound is count found =
    ap (each_behind read number) (here blocks index e bound is)
    ∙ ap (λ (n : ℕ). with_first read n (drop (index + 1) blocks) (read n e)) count
    ∙ ap (with_first read next (drop (index + 1) blocks)) found

grouped : {A : Type 0} (done new : List A) (x : A) (r : Result (List A) Fault) → new ≡ done ++ x ∷ []
    → behind new r ≡ behind done (and_then r (λ xs. Ok (x ∷ xs)))
grouped {A} done new x (Ok xs) e =
    ap (λ (ys : List A). Ok ys) (ap (λ (ys : List A). ys ++ xs) e ∙ append_assoc done (x ∷ []) xs)
grouped done new x (Err fault) e = refl

-- one more is read
pub one_read : {A : Type 0} (read : Reads A) (done new : List A) (x : A) (blocks : List Encoding) (number next index : ℕ) (e : Encoding)
    (whole : Result (List A) Fault) → index < length blocks → e ≡ get_or blocks index e → suc number ≡ next
    → read next e ≡ Ok x → new ≡ done ++ x ∷ [] → behind done (each_behind read number (drop index blocks)) ≡ whole
    → behind new (each_behind read next (drop (index + 1) blocks)) ≡ whole
one_read read done new x blocks number next index e whole bound is count found pushed inv =
    grouped done new x (each_behind read next (drop (index + 1) blocks)) pushed
    ∙ ap (behind done) (sym (from_here read number next blocks index e (Ok x) bound is count found)) ∙ inv

-- a block that can't be read ends the reading
pub none_read : {A : Type 0} (read : Reads A) (done : List A) (blocks : List Encoding) (number next index : ℕ) (e : Encoding)
    (whole : Result (List A) Fault) (fault : Fault) → index < length blocks → e ≡ get_or blocks index e → suc number ≡ next
    → read next e ≡ Err fault → behind done (each_behind read number (drop index blocks)) ≡ whole → whole ≡ Err fault
none_read read done blocks number next index e whole fault bound is count found inv =
    sym inv ∙ ap (behind done) (from_here read number next blocks index e (Err fault) bound is count found)

-- ---- what comes after a path

-- what is left goes on from what the block here makes of what is there
with_here : (count next : ℕ) (b : RevocationData) (blocks : List Encoding) (index : ℕ) (e : Encoding) (r : Result RevocationData Fault)
    → index < length blocks → e ≡ get_or blocks index e → suc count ≡ next → with_block next e b ≡ r
    → lists_behind count b (drop index blocks) ≡ and_then r (λ c. lists_behind next c (drop (index + 1) blocks))
with_here count next b blocks index e r bound is number made =
    ap (lists_behind count b) (here blocks index e bound is)
    ∙ ap (λ (n : ℕ). and_then (with_block n e b) (λ c. lists_behind n c (drop (index + 1) blocks))) number
    ∙ ap (λ (x : Result RevocationData Fault). and_then x (λ c. lists_behind next c (drop (index + 1) blocks))) made

pub one_behind : (count next : ℕ) (b c : RevocationData) (blocks : List Encoding) (index : ℕ) (e : Encoding) (whole : Result RevocationData Fault)
    → index < length blocks → e ≡ get_or blocks index e → suc count ≡ next → with_block next e b ≡ Ok c
    → lists_behind count b (drop index blocks) ≡ whole → lists_behind next c (drop (index + 1) blocks) ≡ whole
one_behind count next b c blocks index e whole bound is number made inv =
    sym (with_here count next b blocks index e (Ok c) bound is number made) ∙ inv

pub none_behind : (count next : ℕ) (b : RevocationData) (blocks : List Encoding) (index : ℕ) (e : Encoding) (whole : Result RevocationData Fault) (fault : Fault)
    → index < length blocks → e ≡ get_or blocks index e → suc count ≡ next → with_block next e b ≡ Err fault
    → lists_behind count b (drop index blocks) ≡ whole → whole ≡ Err fault
none_behind count next b blocks index e whole fault bound is number made inv =
    sym inv ∙ with_here count next b blocks index e (Err fault) bound is number made
