-- The texts that the subcommands write of themselves.
use Rattle.std.specs.Prelude.{ℕ, if◌then◌else◌, List, [], ◌∷◌, codes, Option, Some, None}
use Rattle.std.specs.Str.{bytes_eq}
use Rattle.shelf_register.specs.Commands.{other_word}
use Rattle.shelf_register.specs.declared.text.TheConstants.{FIND, HELP, LIST, REGISTER, RENEW, REVOKE, SEAL, TBS}
use Rattle.shelf_register.specs.declared.word.Word.{Word}
use Rattle.shelf_register.specs.declared.word.Word.TheVariants as word

-- the options of the filter's subcommands that take a register
abbrev pub added_help : Word → List ℕ
added_help word.Tbs = TBS.now
added_help word.Seal = SEAL.now
added_help word.New = []
added_help word.Import = []
added_help word.Export = []
added_help word.Check = []
added_help word.Revoke = []
added_help word.List = []
added_help word.Find = []
added_help word.Renew = []

abbrev pub help_with : Option Word → List ℕ
help_with None = []
help_with (Some w) = added_help w

-- what is added to the filter's help, of the program or of a subcommand
abbrev pub more_help : List (List ℕ) → List ℕ
more_help [] = []
more_help (first ∷ []) = if bytes_eq first (codes "--help") then HELP.now else []
more_help (first ∷ second ∷ rest) = if bytes_eq second (codes "--help") then help_with (other_word first) else []

-- a subcommand's arguments and options
abbrev pub word_help : Word → List ℕ
word_help word.New = REGISTER.now
word_help word.Import = REGISTER.now
word_help word.Export = REGISTER.now
word_help word.Check = REGISTER.now
word_help word.Tbs = TBS.now
word_help word.Seal = SEAL.now
word_help word.Revoke = REVOKE.now
word_help word.List = LIST.now
word_help word.Find = FIND.now
word_help word.Renew = RENEW.now
