-- What is written of certificates.
use Rattle.std.specs.Prelude.{◌≡◌, ℕ, ◌+◌, ◌<◌, List, [], ◌∷◌, ◌++◌, Option, length, take, refl}
use Rattle.std.proofs.Common.{ap, append-nil, append_assoc, get_or, subst, sym, ◌∙◌}
use Rattle.std.proofs.lemmas.List.{take_more}
use Rattle.register_lines.specs.Found.{IsFoundLine}
use Rattle.register_record.specs.declared.state.Certificate.{Certificate}
use Rattle.register_words.specs.declared.finding.Query.{Query}
use Rattle.shelf_register.specs.Finding.{AreShown, IsShownIf, is_asked}
use Rattle.shelf_register.specs.Subjects.{subject_text}
use Rattle.shelf_register.specs.declared.finding.Form.{Form}

pub with_subject : (c : Certificate) (view subject line : List ℕ) → view ≡ subject → subject ≡ subject_text c.kind c.content → IsFoundLine c view line
    → IsFoundLine c (subject_text c.kind c.content) line
with_subject c view subject line shows is found = subst (λ (s : List ℕ). IsFoundLine c s line) (shows ∙ is) found

-- ---- one more at a time

shown_behind : (form : Form) (q : Query) (name : Option (List ℕ)) (cs : List Certificate) (text : List ℕ) (c : Certificate) (part : List ℕ)
    → AreShown form q name cs text → IsShownIf (is_asked q name c) form c part → AreShown form q name (cs ++ c ∷ []) (text ++ part)
shown_behind form q name [] text c part h k = (part, [], k, refl, ap (λ (t : List ℕ). t ++ part) h ∙ sym (append-nil part))
shown_behind form q name (d ∷ cs) text c part h k =
    (h.0, h.1 ++ part, h.2, shown_behind form q name cs h.1 c part h.3 k, ap (λ (t : List ℕ). t ++ part) h.4 ∙ append_assoc h.0 h.1 part)

pub shown_more : (form : Form) (q : Query) (name : Option (List ℕ)) (cs : List Certificate) (i : ℕ) (c : Certificate) (text new part : List ℕ)
    → i < length cs → c ≡ get_or cs i c → AreShown form q name (take i cs) text → IsShownIf (is_asked q name c) form c part
    → new ≡ text ++ part → AreShown form q name (take (i + 1) cs) new
shown_more form q name cs i c text new part l g h k n =
    let more : take (i + 1) cs ≡ take i cs ++ c ∷ [] = take_more cs i c l ∙ ap (λ (x : Certificate). take i cs ++ x ∷ []) (sym g) in
    subst (λ (x : List ℕ). AreShown form q name (take (i + 1) cs) x) (sym n)
    (subst (λ (xs : List Certificate). AreShown form q name xs (text ++ part)) (sym more) (shown_behind form q name (take i cs) text c part h k))
