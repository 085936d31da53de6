-- The texts that `shelf` writes of itself.
use Rattle.std.specs.Prelude.{ℕ, List}
use Rattle.shelf_core.specs.declared.text.TheConstants.{EXPLAIN, HELP, LINT, PATH, SEAL, TBS, VERSION}
use Rattle.shelf_command.specs.declared.word.Word.{Word}
use Rattle.shelf_command.specs.declared.word.Word.TheVariants.{Explain, ExplainJson, Lint, LintJson, LintOrder, Path, Seal, Tbs}

-- the subcommands and the statuses
abbrev pub help_text : List ℕ
help_text = HELP.now

-- a subcommand's arguments and options
abbrev pub word_help : Word → List ℕ
word_help Tbs = TBS.now
word_help Seal = SEAL.now
word_help Lint = LINT.now
word_help LintJson = LINT.now
word_help LintOrder = LINT.now
word_help Explain = EXPLAIN.now
word_help ExplainJson = EXPLAIN.now
word_help Path = PATH.now

-- the name and the version
abbrev pub version_text : List ℕ
version_text = VERSION.now
