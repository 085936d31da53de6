-- The characters of a text that are left, and those that count when it is prepared.
use Rattle.std.specs.Prelude.{Bool, List, cond, false, true, ℕ, ◌&&◌, [], ◌++◌, ◌==◌, ◌∷◌}
use Rattle.std.specs.Cmp.Lexicographic.{pointwise}
use Rattle.der_tree.specs.Grammar.{beq}
use Rattle.path_names.specs.Preparation.{is_space, mapped}
use Rattle.pkix_name.specs.Characters.{codes_of}
use Rattle.path_names.specs.declared.mapped.MappedCharacters.{MappedCharacters}
use Rattle.path_names.specs.declared.significant.Significant.{Significant}
use Rattle.path_names.specs.declared.significant.SignificantCharacters.{SignificantCharacters}

-- what one character became, and then the others when they are mapped
abbrev pub mapped_of : MappedCharacters → List ℕ
mapped_of m = m.queue.now ++ mapped (codes_of m.rest)

-- the characters that aren't spaces, each with whether a space or nothing comes before it
abbrev pub significant_from : Bool → List ℕ → List Significant
significant_from begins [] = []
significant_from begins (c ∷ cs) = cond (is_space c) (significant_from true cs) (record { begins_word = begins; code = c } ∷ significant_from false cs)

abbrev pub significant_of : SignificantCharacters → List Significant
significant_of s = significant_from s.begins_word (mapped_of s.rest)

abbrev pub same_character : Significant → Significant → Bool
same_character a b = beq a.begins_word b.begins_word && (a.code == b.code)

abbrev pub are_same : List Significant → List Significant → Bool
are_same = pointwise same_character
