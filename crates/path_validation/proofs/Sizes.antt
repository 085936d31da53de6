-- How much names and subtrees take, counted as far as a number tells.
use Rattle.std.proofs.Common.{◌≡◌, List, ap, arith, get_or, length, min, nat_lt, sym, take, ℕ, [], ◌++◌, ◌*◌, ◌+◌, ◌-◌, ◌<◌, ◌^◌, ◌∙◌, ◌∷◌}
use Rattle.std.proofs.lemmas.List.{take_more}
use Rattle.std.proofs.lemmas.List.Sums.{sum_by_push}
use Rattle.pkix_cert.specs.declared.constraint.GeneralSubtree.{GeneralSubtree}
use Rattle.path_names.proofs.Sizes.{sum_is, sums_are, whole_is}
use Rattle.path_validation.specs.Names.{Sets, count_in}

pub count_more : (sets : Sets) (i : ℕ) (set : List GeneralSubtree) → i < length sets → set ≡ get_or sets i set
    → count_in (take (i + 1) sets) ≡ count_in (take i sets) + length set
count_more sets i set within is =
    ap count_in (take_more sets i set within)
    ∙ ap (λ (ts : List GeneralSubtree). count_in (take i sets ++ ts ∷ [])) (sym is)
    ∙ sum_by_push (λ (ts : List GeneralSubtree). length ts) (take i sets) set

pub too_much_is : (n a b c d o : ℕ)
    → nat_lt 1000000 (min (min (n * min (min a (2 ^ 64 - 1) + min b (2 ^ 64 - 1)) (2 ^ 64 - 1)) (2 ^ 64 - 1)
    + min (min (min c (2 ^ 64 - 1) + min d (2 ^ 64 - 1)) (2 ^ 64 - 1) * min o (2 ^ 64 - 1)) (2 ^ 64 - 1)) (2 ^ 64 - 1))
    ≡ nat_lt 1000000 (n * (a + b) + (c + d) * o)
too_much_is n a b c d o = whole_is 1000000 (2 ^ 64 - 1) (omega arith) n a b c d o

-- how many policies and mappings there are
pub many_is : (a b : ℕ) → nat_lt 512 (min (a + b) (2 ^ 64 - 1)) ≡ nat_lt 512 (a + b)
many_is a b = sum_is 512 (2 ^ 64 - 1) (omega arith) (a + b)

-- pairs of policies
pub pairs_are : (u w p q : ℕ)
    → nat_lt 16777216 (min (min (u + min w (2 ^ 64 - 1)) (2 ^ 64 - 1) * min (min w (2 ^ 64 - 1) + min (p + q) (2 ^ 64 - 1)) (2 ^ 64 - 1)) (2 ^ 64 - 1))
    ≡ nat_lt 16777216 ((u + w) * (w + (p + q)))
pairs_are u w p q = sums_are 16777216 (2 ^ 64 - 1) (omega arith) u w (p + q)
