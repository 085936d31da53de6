-- Timestamps that are pushed one after another.
use Rattle.std.proofs.Common.{◌≡◌, ◌++◌, ℕ, List, [], ◌∷◌, Option, Some, None, ap, sym, ◌∙◌}
use Rattle.std.proofs.lemmas.List.{append_assoc, append-nil}
use Rattle.shelf_explain.specs.Lines.{next_line}
use Rattle.shelf_explain.specs.Timestamps.{more_timestamps, of_next, rest_text, timestamp_text}
use Rattle.shelf_explain.specs.Timestamps.{vector}

is_next : (steps others left next rest : List ℕ) (step : ℕ) → steps ≡ step ∷ others → vector left ≡ Some (next, rest)
    → more_timestamps steps left ≡ next_line ++ timestamp_text next ++ more_timestamps others rest
unfolding more_timestamps
is_next steps others left next rest step e v =
    ap (λ (s : List ℕ). more_timestamps s left) e ∙ ap (λ (o : Option (List ℕ × List ℕ)). of_next (more_timestamps others) o left) v

is_rest : (steps others left : List ℕ) (step : ℕ) → steps ≡ step ∷ others → vector left ≡ None → more_timestamps steps left ≡ rest_text left
unfolding more_timestamps
is_rest steps others left step e v =
    ap (λ (s : List ℕ). more_timestamps s left) e ∙ ap (λ (o : Option (List ℕ × List ℕ)). of_next (more_timestamps others) o left) v

pub one_more : (old mid new all steps others left next rest : List ℕ) (step : ℕ) → steps ≡ step ∷ others → vector left ≡ Some (next, rest)
    → mid ≡ old ++ next_line → new ≡ mid ++ timestamp_text next → old ++ more_timestamps steps left ≡ all → new ++ more_timestamps others rest ≡ all
one_more old mid new all steps others left next rest step e v m n h =
    ap (λ (t : List ℕ). t ++ more_timestamps others rest) (n ∙ ap (λ (t : List ℕ). t ++ timestamp_text next) m ∙ append_assoc old next_line (timestamp_text next))
    ∙ append_assoc old (next_line ++ timestamp_text next) (more_timestamps others rest)
    ∙ ap (λ (t : List ℕ). old ++ t) (sym (is_next steps others left next rest step e v))
    ∙ h

pub at_rest : (old new all steps others left : List ℕ) (step : ℕ) → steps ≡ step ∷ others → vector left ≡ None
    → new ≡ old ++ rest_text left → old ++ more_timestamps steps left ≡ all → new ≡ all
at_rest old new all steps others left step e v n h = n ∙ ap (λ (t : List ℕ). old ++ t) (sym (is_rest steps others left step e v)) ∙ h

pub at_end : (lines all steps left : List ℕ) → steps ≡ [] → lines ++ more_timestamps steps left ≡ all → lines ≡ all
unfolding more_timestamps
at_end lines all steps left e h = sym (append-nil lines) ∙ ap (λ (s : List ℕ). lines ++ more_timestamps s left) (sym e) ∙ h
