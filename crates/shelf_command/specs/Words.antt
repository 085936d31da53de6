-- The subcommands.
use Rattle.std.specs.Prelude.{ℕ, List, [], ◌∷◌, codes, Option}
use Rattle.toml_format.specs.Words.{word_of as in_table}
use Rattle.shelf_command.specs.declared.word.Word.{Word}
use Rattle.shelf_command.specs.declared.word.Word.TheVariants.{Explain, Lint, Path, Seal, Tbs}

unfoldable pub word_named : List ℕ → Option Word
word_named = in_table (
    (codes "tbs", Tbs) ∷ (codes "seal", Seal) ∷ (codes "lint", Lint) ∷ (codes "explain", Explain) ∷ (codes "path", Path) ∷ [])
