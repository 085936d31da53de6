-- A text without the front that names a country.
use Rattle.std.proofs.Common.{◌≡◌, ◌∙◌, ℕ, true, false, List, Option, Some, None, Bor, cond, drop, codes, ap, subst, sym}
use Rattle.std.proofs.lemmas.Str.Pattern.{starts_text}
use Rattle.std.specs.Option.{option_map}
use Rattle.std.specs.Prelude.{MatchOption}
use Rattle.std.specs.Str.{IsCharBoundary}
use Rattle.std.specs.Str.Pattern.{FindsTextPrefix, StripsPrefix}
use Rattle.shelf_profile.specs.SubjectName.{country_in}

abbrev front : List ℕ
front = codes "C="

pub country_found : (s : List ℕ) (r : Option (Bor (List ℕ)))
    → MatchOption r (FindsTextPrefix (codes "C=") s None) (λ x. StripsPrefix (FindsTextPrefix (codes "C=")) s x.now)
    → option_map (λ (x : Bor (List ℕ)). x.now) r ≡ country_in s
unfolding country_in
country_found s None h = ap (λ b. cond b (Some (drop 2 s)) None) (starts_text false front s h)
country_found s (Some x) h =
    ap Some (h.2 ∙ ap (λ (n : ℕ). drop n s) h.1.0)
    ∙ ap (λ b. cond b (Some (drop 2 s)) None)
    (starts_text true front s (h.0, h.1, subst (λ (n : ℕ). IsCharBoundary s n) (sym h.1.0) h.1.2))
