-- The texts of what can't be read are indented.
use Rattle.std.proofs.Common.{ℕ, List, [], ◌∷◌, ◌++◌, codes, decimal, Option, Some, None, refl}
use Rattle.der_tree.specs.Codec.{Codec}
use Rattle.der_tree.specs.Form.{value_of}
use Rattle.strict_der.specs.Offences.{offence_of}
use Rattle.strict_der.specs.declared.offence.Offence.{Offence}
use Rattle.strict_der.specs.declared.offence.Rule.{Rule}
use Rattle.strict_der.specs.declared.offence.Rule.TheVariants as rule
use Rattle.shelf_explain.specs.Faults.{fault_text, offence_text, offence_words, rule_words}
use Rattle.shelf_explain.specs.Lines.{below_line, hex_text, labelled, next_line}
use Rattle.shelf_explain.specs.PartTexts.{by_parts, parts_text, place_text, read_at, read_or_parts, spread_or_unreadable, spread_parts, text_or_parts, text_or_unreadable_at, unreadable_at, whole_place}
use Rattle.shelf_explain.specs.Parts.{Place, further, parts_of}
use Rattle.explained_whole.proofs.Breaks.{decimal_unbroken, hex_unbroken, labelled_unbroken}
use Rattle.explained_whole.proofs.Indents.{both, each, indented, of_unbroken}

pub next_indented : indented next_line
unfolding next_line
next_indented = refl

pub below_indented : indented below_line
unfolding below_line
below_indented = refl

pub labelled_indented : (label text : List ℕ) → indented label → indented text → indented (labelled label text)
unfolding labelled
labelled_indented label text h k = both label text h k

pub hex_indented : (octets : List ℕ) → indented (hex_text octets)
hex_indented octets = of_unbroken (hex_text octets) (hex_unbroken octets)

rule_indented : (r : Rule) → indented (rule_words r)
unfolding rule_words
rule_indented rule.HighTag = refl
rule_indented _ = refl

offence_indented : (at : ℕ) (o : Option Offence) → indented (offence_text at o)
unfolding offence_text offence_words
offence_indented at None = refl
offence_indented at (Some o) =
    both (next_line ++ labelled (codes "not DER at octet ") (decimal (further at o.at)) ++ codes " (" ++ rule_words o.rule) (codes ")")
    (both (next_line ++ labelled (codes "not DER at octet ") (decimal (further at o.at)) ++ codes " (") (rule_words o.rule)
    (both (next_line ++ labelled (codes "not DER at octet ") (decimal (further at o.at))) (codes " (")
    (both next_line (labelled (codes "not DER at octet ") (decimal (further at o.at))) next_indented
    (of_unbroken (labelled (codes "not DER at octet ") (decimal (further at o.at)))
    (labelled_unbroken (codes "not DER at octet ") (decimal (further at o.at)) refl (decimal_unbroken (further at o.at))))) refl)
    (rule_indented o.rule)) refl

place_indented : (label : List ℕ) (p : Place) → indented label → indented (place_text label p)
unfolding place_text fault_text
place_indented label p h =
    both (labelled label (decimal p.at)) (offence_text p.at (offence_of p.octets))
    (labelled_indented label (decimal p.at) h (of_unbroken (decimal p.at) (decimal_unbroken p.at)))
    (offence_indented p.at (offence_of p.octets))

pub unreadable_indented : (p : Place) → indented (unreadable_at p)
unfolding unreadable_at
unreadable_indented p =
    both (place_text (codes "unreadable at octet ") p ++ codes ": ") (hex_text p.octets)
    (both (place_text (codes "unreadable at octet ") p) (codes ": ") (place_indented (codes "unreadable at octet ") p refl) refl) (hex_indented p.octets)

whole_indented : (p : Place) → indented (whole_place p)
unfolding whole_place
whole_indented p =
    both (place_text (codes "unreadable as a whole at octet ") p) (codes "; its parts:") (place_indented (codes "unreadable as a whole at octet ") p refl) refl

some_indented : {A : Type 0} (text : A → List ℕ) → ((v : A) → indented (text v)) → (o : Option A) (p : Place) → indented (text_or_unreadable_at text o p)
unfolding text_or_unreadable_at
some_indented text h None p = unreadable_indented p
some_indented text h (Some value) p = h value

pub read_indented : {A : Type 0} (c : Codec A) (text : A → List ℕ) → ((v : A) → indented (text v)) → (p : Place) → indented (read_at c text p)
unfolding read_at
read_indented c text h p = some_indented text h (value_of c p.octets) p

pub parts_indented : (before : List ℕ) (text : Place → List ℕ) → indented before → ((p : Place) → indented (text p)) → (ps : List Place)
    → indented (parts_text before text ps)
unfolding parts_text
parts_indented before text h k ps = each (λ (p : Place). before ++ text p) (λ (p : Place). both before (text p) h (k p)) ps

by_parts_indented : (before : List ℕ) (text : Place → List ℕ) → indented before → ((p : Place) → indented (text p)) → (o : Option (List Place)) (p : Place)
    → indented (by_parts before text o p)
unfolding by_parts
by_parts_indented before text h k None p = unreadable_indented p
by_parts_indented before text h k (Some ps) p = both (whole_place p) (parts_text before text ps) (whole_indented p) (parts_indented before text h k ps)

text_or_indented : {A : Type 0} (text : A → List ℕ) (before : List ℕ) (part_text : Place → List ℕ) → ((v : A) → indented (text v)) → indented before
    → ((p : Place) → indented (part_text p)) → (o : Option A) (p : Place) → indented (text_or_parts text before part_text o p)
unfolding text_or_parts
text_or_indented text before part_text f h k None p = by_parts_indented before part_text h k (parts_of p) p
text_or_indented text before part_text f h k (Some value) p = f value

pub read_parts_indented : {A : Type 0} (c : Codec A) (text : A → List ℕ) (before : List ℕ) (part_text : Place → List ℕ) → ((v : A) → indented (text v))
    → indented before → ((p : Place) → indented (part_text p)) → (p : Place) → indented (read_or_parts c text before part_text p)
unfolding read_or_parts
read_parts_indented c text before part_text f h k p = text_or_indented text before part_text f h k (value_of c p.octets) p

pub spread_indented : (text : Place → List ℕ) → ((p : Place) → indented (text p)) → (o : Option (List Place)) (p : Place) → indented (spread_or_unreadable text o p)
unfolding spread_or_unreadable spread_parts
spread_indented text h None p = unreadable_indented p
spread_indented text h (Some []) p = refl
spread_indented text h (Some (q ∷ qs)) p = both (text q) (parts_text next_line text qs) (h q) (parts_indented next_line text next_indented h qs)
