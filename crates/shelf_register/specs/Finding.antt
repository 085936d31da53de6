-- What `find` writes.
use Rattle.std.specs.Prelude.{◌≡◌, ℕ, Bool, true, false, ◌&&◌, ◌||◌, nat_eq, List, [], ◌∷◌, ◌++◌, Option, Some, None}
use Rattle.std.specs.List.{starts_with}
use Rattle.pem.specs.Text.{pem_text}
use Rattle.register_lines.specs.Found.{IsFoundLine}
use Rattle.register_record.specs.declared.event.Kind.{Kind}
use Rattle.register_record.specs.declared.state.Certificate.{Certificate}
use Rattle.register_record.specs.declared.state.Content.{Content}
use Rattle.register_record.specs.declared.state.Content.TheVariants.{Pending, Sealed}
use Rattle.register_words.specs.Find.{matches}
use Rattle.register_words.specs.declared.finding.Query.{Query}
use Rattle.shelf_register.specs.Sealing.{label}
use Rattle.shelf_register.specs.Subjects.{subject_text}
use Rattle.shelf_register.specs.declared.finding.Form.{Form}
use Rattle.shelf_register.specs.declared.finding.Form.TheVariants.{Lines, Json, Pem}

-- ---- what is asked for

abbrev pub octets_of : Content → List ℕ
octets_of (Pending octets) = octets
octets_of (Sealed octets) = octets

-- the part is among the octets, one after the other
abbrev pub has_part : List ℕ → List ℕ → Bool
has_part part [] = starts_with nat_eq [] part
has_part part (x ∷ xs) = starts_with nat_eq (x ∷ xs) part || has_part part xs

abbrev pub is_named : Option (List ℕ) → Certificate → Bool
is_named None c = true
is_named (Some text) c = has_part text (octets_of c.content)

abbrev pub is_asked : Query → Option (List ℕ) → Certificate → Bool
is_asked q name c = matches q c && is_named name c

-- ---- what is written

-- what is sealed, as PEM
abbrev pub pem_of : Kind → Content → List ℕ
pem_of kind (Pending message) = []
pem_of kind (Sealed octets) = pem_text (label kind) octets

-- of JSON this says nothing
abbrev pub IsShown : Form → Certificate → List ℕ → Type 0
IsShown Lines c text = IsFoundLine c (subject_text c.kind c.content) text
IsShown Json c text = Unit {0}
IsShown Pem c text = text ≡ pem_of c.kind c.content

abbrev pub IsShownIf : Bool → Form → Certificate → List ℕ → Type 0
IsShownIf false form c text = text ≡ []
IsShownIf true form c text = IsShown form c text

-- what is written of each certificate that is asked for, in order
abbrev pub AreShown : Form → Query → Option (List ℕ) → List Certificate → List ℕ → Type 0
AreShown form q name [] text = text ≡ []
AreShown form q name (c ∷ cs) text =
    (part rest : List ℕ) × IsShownIf (is_asked q name c) form c part × AreShown form q name cs rest × (text ≡ part ++ rest)
