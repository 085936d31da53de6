-- Where an octet is in a text, and texts that are the same.
use Rattle.std.proofs.Common.{◌≡◌, ◌≤◌, ◌↔◌, length, not, refl, sym, ℕ, Bool, List, false, true}
use Rattle.std.specs.Cmp.Lexicographic.{bytes_decides}
use Rattle.std.specs.List.{position_or_len}
use Rattle.std.specs.Prelude.{IsTrue}
use Rattle.std.specs.Str.{bytes_eq}
use Rattle.std.proofs.lemmas.Bool.{false_from_ne_true}
use Rattle.std.proofs.lemmas.List.Sums.{prefix_len-le-length}

pub place_fits : (p : ℕ → Bool) (text : List ℕ) → position_or_len p text ≤ length text
place_fits p text = prefix_len-le-length (λ c. not (p c)) text

pub decided : (r : Bool) (xs ys : List ℕ) → (IsTrue r ↔ (xs ≡ ys)) → r ≡ bytes_eq xs ys
decided true xs ys e = sym ((bytes_decides xs ys).1 (e.0 refl))
decided false xs ys e = sym (false_from_ne_true (bytes_eq xs ys) (λ h. let k : false ≡ true = e.1 ((bytes_decides xs ys).0 h) in cc))
