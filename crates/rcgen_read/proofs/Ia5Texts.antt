-- Octets of an IA5String are ASCII, and so UTF-8.
use Rattle.std.specs.Prelude.{◌≡◌, ℕ, zero, suc, ◌+◌, Bool, true, false, cond, ◌&&◌, ◌==◌, ◌%◌, List, [], ◌∷◌, length, Some, None, IsAscii, refl}
use Rattle.std.specs.Char.{is_ascii}
use Rattle.std.specs.List.{list_all, prefix_len, take_while}
use Rattle.std.specs.Str.{is_utf8}
use Rattle.std.proofs.Common.{arith, eqb-true, sym, ◌∙◌}
use Rattle.std.proofs.Math.Dec.{lit<}
use Rattle.std.proofs.lemmas.Bool.{ltb-true}
use Rattle.std.proofs.lemmas.List.Folds.{length-prefix_len}
use Rattle.std.proofs.lemmas.Str.{IsUtf8-from_ascii, is_utf8-from_IsUtf8}
use Rattle.asn1_core.specs.Binds.{and_true}
use Rattle.asn1_core.specs.StringTypes.{ia5}
use Rattle.asn1_core.specs.Texts.{fault_of}
use Rattle.rcgen_text.specs.Strings.{is_ia5}

all_taken : (octets : List ℕ) → prefix_len is_ascii octets ≡ length octets → list_all is_ascii octets ≡ true
all_taken [] h = refl
all_taken (x ∷ xs) h =
    elim (is_ascii x) as (λ b. cond b (1 + prefix_len is_ascii xs) 0 ≡ suc (length xs) → (b && list_all is_ascii xs) ≡ true) [
      | true ↦ λ m. all_taken xs (omega arith)
      | false ↦ λ m. absurd (omega arith)
    ] h

no_fault_in : {A : Type 0} (a b : Bool) (x y : A) → cond a (cond b None (Some x)) (Some y) ≡ None → b ≡ true
no_fault_in true true x y h = refl
no_fault_in true false x y h = absurd cc
no_fault_in false b x y h = absurd cc

pub are_ascii : (octets : List ℕ) → fault_of ia5 octets ≡ None → list_all is_ia5 octets ≡ true
are_ascii octets h =
    let whole = no_fault_in (length octets % 1 == 0) (length (take_while is_ascii octets) == length octets) _ _ h in
    all_taken octets (sym (length-prefix_len is_ascii octets) ∙ eqb-true _ _ whole)

each_ascii : (octets : List ℕ) → list_all is_ascii octets ≡ true → IsAscii octets
each_ascii [] h i = lit< tt
each_ascii (x ∷ xs) h zero = ltb-true x 128 (and_true _ _ h).0
each_ascii (x ∷ xs) h (suc i) = each_ascii xs (and_true _ _ h).1 i

pub utf8_of_ascii : (octets : List ℕ) → list_all is_ascii octets ≡ true → is_utf8 octets ≡ true
utf8_of_ascii octets h = is_utf8-from_IsUtf8 octets (IsUtf8-from_ascii octets (each_ascii octets h))

pub are_utf8 : (octets : List ℕ) → fault_of ia5 octets ≡ None → is_utf8 octets ≡ true
are_utf8 octets h = utf8_of_ascii octets (are_ascii octets h)
