-- Subidentifiers, written and read one after another.
use Rattle.std.specs.Prelude.{false, is_some, true}
use Rattle.std.proofs.Common.{◌≡◌, ℕ, ◌+◌, ◌^◌, ◌<◌, List, [], ◌∷◌, ◌++◌, length, Option, Some, None, refl, sym, ap, ◌∙◌, append_assoc, arith}
use Rattle.std.proofs.lemmas.List.{append-nil, take_more, take_all}
use Rattle.std.proofs.lemmas.List.{flat_map_more}
use Rattle.asn1_core.specs.Binds.{◌>>=◌}
use Rattle.asn1_core.specs.Base128.{base128_at}
use Rattle.asn1_core.specs.ObjectIdentifiers.{behind, subidentifiers, subidentifiers_nil, subidentifiers_stop, subidentifiers_step, base128_shorter}

behind_step : (front : List ℕ) (n : ℕ) (o : Option (List ℕ)) → behind front (o >>= λ ns. Some (n ∷ ns)) ≡ behind (front ++ n ∷ []) o
behind_step front n None = refl
behind_step front n (Some ns) = ap (λ (x : List ℕ). Some x) (sym (append_assoc front (n ∷ []) ns))

pub read_shorter : (bytes : List ℕ) (n : ℕ) (rest : List ℕ) → base128_at (2 ^ 25) bytes ≡ Some (n, rest) → length rest < length bytes
read_shorter bytes n rest e = base128_shorter (2 ^ 25) bytes n rest (omega arith) e

pub read_more : (front bytes : List ℕ) (n : ℕ) (rest : List ℕ) → base128_at (2 ^ 25) bytes ≡ Some (n, rest) → behind (front ++ n ∷ []) (subidentifiers rest) ≡ behind front (subidentifiers bytes)
read_more front [] n rest e = absurd (let l : length rest < length {A = ℕ} [] = read_shorter [] n rest e in omega arith)
read_more front (b ∷ bytes) n rest e = sym (ap (behind front) (subidentifiers_step b bytes n rest e) ∙ behind_step front n (subidentifiers rest))

pub read_stop : (front bytes : List ℕ) → 0 < length bytes → base128_at (2 ^ 25) bytes ≡ None → behind front (subidentifiers bytes) ≡ None
read_stop front [] l e = absurd (omega arith)
read_stop front (b ∷ bytes) l e = ap (behind front) (subidentifiers_stop b bytes e)

pub read_end : (front bytes : List ℕ) → length bytes ≡ 0 → behind front (subidentifiers bytes) ≡ Some front
read_end front [] l = ap (behind front) subidentifiers_nil ∙ ap (λ (x : List ℕ). Some x) (append-nil front)
read_end front (b ∷ bytes) l = absurd (omega arith)

pub ruleset reading = (read_shorter, read_more, read_stop, read_end)

-- ---- the same of octets that are looked at, and not kept

pub some_behind : (front : List ℕ) (o : Option (List ℕ)) → is_some (behind front o) ≡ is_some o
some_behind front None = refl
some_behind front (Some ns) = refl

pub seen_more : (bytes : List ℕ) (n : ℕ) (rest : List ℕ) → base128_at (2 ^ 25) bytes ≡ Some (n, rest) → is_some (subidentifiers rest) ≡ is_some (subidentifiers bytes)
seen_more bytes n rest e = sym (some_behind (n ∷ []) (subidentifiers rest)) ∙ ap is_some (read_more [] bytes n rest e) ∙ some_behind [] (subidentifiers bytes)

pub seen_stop : (bytes : List ℕ) → 0 < length bytes → base128_at (2 ^ 25) bytes ≡ None → is_some (subidentifiers bytes) ≡ false
seen_stop bytes l e = sym (some_behind [] (subidentifiers bytes)) ∙ ap is_some (read_stop [] bytes l e)

pub seen_end : (bytes : List ℕ) → length bytes ≡ 0 → is_some (subidentifiers bytes) ≡ true
seen_end bytes l = sym (some_behind [] (subidentifiers bytes)) ∙ ap is_some (read_end [] bytes l)

pub ruleset seeing = (read_shorter, seen_more, seen_stop, seen_end)

pub ruleset writing = (take_more, take_all, flat_map_more)
