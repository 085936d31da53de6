-- What files hold, for people, and the same as JSON.
use Rattle.std.specs.Prelude.{ℕ, Bool, true, false, cond, nat_eq, codes, List, [], ◌∷◌, ◌++◌, Option, None, unwrap_or, Result, Ok, Err}
use Rattle.std.specs.Cmp.Lexicographic.{pointwise}
use Rattle.std.specs.List.{flat_map}
use Rattle.explain_json.specs.Json.{json_of}
use Rattle.pem.specs.Encoding.{Encoding}
use Rattle.shelf_explain.specs.Explanation.{explanation, explanation_of_der, long_explanation, long_explanation_of_der}
use Rattle.shelf_fault.specs.Faults.{and_then}
use Rattle.shelf_fault.specs.declared.fault.Fault.{Fault}
use Rattle.shelf_fault.specs.declared.fault.Fault.TheVariants.{NoBlock}
use Rattle.shelf_input.specs.Files.{files_blocks}

-- what octets without a label hold, in lines of any length where that is asked for
unfoldable pub der_text : Bool → List ℕ → Option (List ℕ)
der_text is_long octets = cond is_long (long_explanation_of_der octets) (explanation_of_der octets)

-- what octets hold that have the label `DER`
unfoldable pub der_explained : Bool → List ℕ → List ℕ → Option (List ℕ)
der_explained is_long label octets = cond (pointwise nat_eq label (codes "DER")) (der_text is_long octets) None

-- what octets with a label hold, in lines of any length where that is asked for
unfoldable pub block_text : Bool → List ℕ → List ℕ → List ℕ
block_text is_long label octets = cond is_long (long_explanation label octets) (explanation label octets)

-- what a block holds: octets without a label of their own show what they are
unfoldable pub explained : Bool → Encoding → List ℕ
explained is_long e = unwrap_or (der_explained is_long e.label e.octets) (block_text is_long e.label e.octets)

-- the same after an empty line
abbrev pub apart : Bool → Encoding → List ℕ
apart is_long e = 10 ∷ explained is_long e

-- what each block holds in its order, an empty line between two
abbrev pub explanations : Bool → List Encoding → Result (List ℕ) Fault
explanations is_long [] = Err NoBlock
explanations is_long (e ∷ es) = Ok (explained is_long e ++ flat_map (apart is_long) es)

unfoldable pub texts_in : Bool → List (List ℕ) → Result (List ℕ) Fault
texts_in is_long files = and_then (files_blocks 0 [] files) (explanations is_long)

-- what files hold
unfoldable pub explained_in : List (List ℕ) → Result (List ℕ) Fault
explained_in files = texts_in false files

-- the same as JSON
unfoldable pub explained_json : List (List ℕ) → Result (List ℕ) Fault
explained_json files = and_then (texts_in true files) (λ (text : List ℕ). Ok (json_of text))
