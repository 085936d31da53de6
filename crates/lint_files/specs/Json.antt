-- What is wrong with blocks as JSON (RFC 8259): an array with an object for each finding.
use Rattle.std.specs.Prelude.{Bool, List, [], codes, cond, decimal, false, if◌then◌else◌, nat_le, ℕ, ◌&&◌, ◌++◌, ◌==◌, ◌||◌, ◌∷◌}
use Rattle.std.specs.List.{flat_map}
use Rattle.lint_files.specs.Findings.{is_error}
use Rattle.lint_files.specs.Lines.{finding_text, shown_character}
use Rattle.lint_files.specs.Locations.{LocatedView}
use Rattle.lint_files.specs.declared.finding.Finding.{Finding}

-- a character of a string (RFC 8259, 7); none is a control character
unfoldable pub escaped : ℕ → List ℕ
escaped octet = cond ((octet == 34) || (octet == 92)) (92 ∷ octet ∷ []) (octet ∷ [])

abbrev pub shown_octet : ℕ → List ℕ
shown_octet octet = escaped (shown_character octet)

-- the identifier comes next, in brackets after a space
abbrev pub is_end : List ℕ → Bool
is_end [] = false
is_end (c ∷ []) = false
is_end (c ∷ d ∷ ds) = (c == 32) && (d == 91)

-- what a text says, without its identifier
abbrev pub words : List ℕ → List ℕ
words [] = []
words (c ∷ cs) = cond (is_end (c ∷ cs)) [] (escaped c ++ words cs)

-- what comes after an octet
abbrev pub behind : ℕ → List ℕ → List ℕ
behind mark [] = []
behind mark (c ∷ cs) = cond (c == mark) cs (behind mark cs)

-- what comes before one
abbrev pub up_to : ℕ → List ℕ → List ℕ
up_to mark [] = []
up_to mark (c ∷ cs) = cond (c == mark) [] (escaped c ++ up_to mark cs)

-- a standard comes next, after a parenthesis: its name begins with a capital letter
abbrev pub is_citation : List ℕ → Bool
is_citation [] = false
is_citation (c ∷ []) = false
is_citation (c ∷ d ∷ ds) = (c == 40) && (nat_le 65 d && nat_le d 90)

-- what comes after that parenthesis: the name of the standard, a comma and the section
abbrev pub citation : List ℕ → List ℕ
citation [] = []
citation (c ∷ cs) = cond (is_citation (c ∷ cs)) cs (citation cs)

-- a section ends before a semicolon, and before the parenthesis that the identifier follows
abbrev pub ends_section : List ℕ → Bool
ends_section [] = false
ends_section (c ∷ cs) = (c == 59) || ((c == 41) && is_end cs)

abbrev pub section : List ℕ → List ℕ
section [] = []
section (c ∷ cs) = cond (ends_section (c ∷ cs)) [] (escaped c ++ section cs)

abbrev pub severity_word : Bool → List ℕ
severity_word error = if error then codes "error" else codes "warning"

unfoldable pub place_part : ℕ → List ℕ → List ℕ
place_part number label = codes "{\"block\":" ++ (decimal number ++ (codes ",\"label\":\"" ++ flat_map shown_octet label))

unfoldable pub severity_part : Finding → List ℕ
severity_part f = codes "\",\"severity\":\"" ++ severity_word (is_error f)

unfoldable pub rule_part : Finding → List ℕ
rule_part f = codes "\",\"rule\":\"" ++ up_to 93 (behind 91 (finding_text f))

unfoldable pub standard_part : List ℕ → List ℕ
standard_part citation = codes "\",\"standard\":\"" ++ up_to 44 citation

unfoldable pub section_part : List ℕ → List ℕ
section_part citation = codes "\",\"section\":\"" ++ section (behind 32 (behind 44 citation))

-- the first standard that the text names, and its section
abbrev pub cited : List ℕ → List ℕ
cited [] = []
cited (c ∷ cs) = standard_part (c ∷ cs) ++ section_part (c ∷ cs)

unfoldable pub citation_part : Finding → List ℕ
citation_part f = cited (citation (finding_text f))

unfoldable pub text_part : Finding → List ℕ
text_part f = codes "\",\"text\":\"" ++ (words (finding_text f) ++ codes "\"}")

unfoldable pub finding_json : LocatedView → List ℕ
finding_json l = place_part l.number l.label ++ (severity_part l.finding ++ (rule_part l.finding ++ (citation_part l.finding ++ text_part l.finding)))

-- the same after a comma
abbrev pub separated : LocatedView → List ℕ
separated l = codes ",\n" ++ finding_json l

abbrev pub joined : List LocatedView → List ℕ
joined [] = []
joined (l ∷ ls) = finding_json l ++ flat_map separated ls

unfoldable pub findings_json : List LocatedView → List ℕ
findings_json found = codes "[" ++ (joined found ++ codes "]\n")
