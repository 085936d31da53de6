-- Which subcommand the words after the program's name ask for.
use Rattle.std.specs.Prelude.{◌≡◌, ℕ, Bool, true, false, ◌||◌, if◌then◌else◌, unwrap_or, List, [], ◌∷◌, codes, Option, Some, None}
use Rattle.std.specs.Str.{bytes_eq}
use Rattle.toml_format.specs.Words.{word_of as in_table}
use Rattle.shelf_register.specs.declared.asked.Command.{Command}
use Rattle.shelf_register.specs.declared.asked.Command.TheVariants as command
use Rattle.shelf_register.specs.declared.word.Word.{Word}
use Rattle.shelf_register.specs.declared.word.Word.TheVariants as word

-- after `register`
unfoldable pub register_word : List ℕ → Option Word
register_word = in_table ((codes "new", word.New) ∷ (codes "import", word.Import) ∷ (codes "export", word.Export) ∷ (codes "check", word.Check) ∷ [])

unfoldable pub other_word : List ℕ → Option Word
other_word = in_table (
    (codes "tbs", word.Tbs) ∷ (codes "seal", word.Seal) ∷ (codes "revoke", word.Revoke) ∷ (codes "list", word.List) ∷ (codes "find", word.Find)
    ∷ (codes "renew", word.Renew) ∷ [])

-- the subcommand
abbrev pub word_of : List (List ℕ) → Option Word
word_of [] = None
word_of (first ∷ []) = other_word first
word_of (first ∷ second ∷ rest) = if bytes_eq first (codes "register") then register_word second else other_word first

-- the subcommand on which help is given; `register --help` is help on those of registers
abbrev pub after_register : List ℕ → Option Word
after_register second = if bytes_eq second (codes "--help") then Some word.New else register_word second

abbrev pub help_word_of : List (List ℕ) → Option Word
help_word_of [] = None
help_word_of (first ∷ []) = other_word first
help_word_of (first ∷ second ∷ rest) = if bytes_eq first (codes "register") then after_register second else other_word first

-- a command is of the one subcommand, or gives help on the other
abbrev pub IsOf : Option Word → Option Word → Command → Type 0
IsOf o help (command.Run asked) = o ≡ Some asked.word
IsOf o help (command.HelpOn w) = help ≡ Some w
IsOf o help (command.Wrong text) = Unit {0}

-- what the words ask for
abbrev pub Asks : List (List ℕ) → Command → Type 0
Asks words c = IsOf (word_of words) (help_word_of words) c

-- ---- whether a register is asked for

-- these subcommands always need one
abbrev pub needs_register : List ℕ → Bool
needs_register w =
    bytes_eq w (codes "register") || bytes_eq w (codes "revoke") || bytes_eq w (codes "list") || bytes_eq w (codes "find") || bytes_eq w (codes "renew")

-- whether the words ask for one, where this word decides it
unfoldable pub decided_by : List ℕ → Option Bool
decided_by = in_table ((codes "--register", true) ∷ (codes "--", false) ∷ [])

-- `--register` is among the words, and `--` isn't before it
abbrev pub has_register_option : List (List ℕ) → Bool
has_register_option [] = false
has_register_option (w ∷ ws) = unwrap_or (decided_by w) (has_register_option ws)

abbrev pub is_register : List (List ℕ) → Bool
is_register [] = false
is_register (w ∷ ws) = needs_register w || has_register_option ws
