-- The lines of entries, one more at a time.
use Rattle.std.specs.Prelude.{◌≡◌, ℕ, ◌+◌, ◌<◌, ℤ, Bool, true, false, List, [], ◌∷◌, ◌++◌, length, take, refl}
use Rattle.std.proofs.Common.{ap, append-nil, append_assoc, get_or, subst, sym, ◌∙◌}
use Rattle.std.proofs.lemmas.List.{take_more}
use Rattle.register_record.specs.declared.list.Entry.{Entry}
use Rattle.register_lines.specs.Found.{IsEndText}
use Rattle.register_lines.specs.Lines.{AreLines, IsChangeText}
use Rattle.register_lines.specs.Times.{IsTimeText}

lines_behind : (es : List Entry) (text : List ℕ) (e : Entry) (line : List ℕ) → AreLines es text → IsChangeText e.serial e.change line
    → AreLines (es ++ e ∷ []) (text ++ line)
lines_behind [] text e line h k = (line, [], k, refl, ap (λ (t : List ℕ). t ++ line) h ∙ sym (append-nil line))
lines_behind (d ∷ es) text e line h k =
    (h.0, h.1 ++ line, h.2, lines_behind es h.1 e line h.3 k, ap (λ (t : List ℕ). t ++ line) h.4 ∙ append_assoc h.0 h.1 line)

pub lines_more : (es : List Entry) (i : ℕ) (e : Entry) (text new line : List ℕ) → i < length es → e ≡ get_or es i e → AreLines (take i es) text
    → IsChangeText e.serial e.change line → new ≡ text ++ line → AreLines (take (i + 1) es) new
lines_more es i e text new line l g h k n =
    let more : take (i + 1) es ≡ take i es ++ e ∷ [] = take_more es i e l ∙ ap (λ (x : Entry). take i es ++ x ∷ []) (sym g) in
    subst (λ (x : List ℕ). AreLines (take (i + 1) es) x) (sym n)
    (subst (λ (xs : List Entry). AreLines xs (text ++ line)) (sym more) (lines_behind (take i es) text e line h k))

-- ---- the end of a validity

pub end_is : (b : Bool) (seconds : ℤ) (text : List ℕ) → b ≡ true → IsTimeText seconds text → IsEndText b seconds text
end_is true seconds text e h = h
end_is false seconds text e h = absurd cc
