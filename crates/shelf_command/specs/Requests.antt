-- What the words after the program's name ask for.
use Rattle.std.specs.Prelude.{ℕ, Bool, true, false, ◌&&◌, ◌||◌, not, nat_lt, is_none, is_some, if◌then◌else◌, List, [], ◌∷◌, ◌++◌, map, count_by, codes, Option, Some, None}
use Rattle.std.specs.Option.{option_and_then}
use Rattle.std.specs.Str.{bytes_eq}
use Rattle.command_files.specs.Run.{Named}
use Rattle.shelf_command.specs.CommandLines.{line_of, no_line}
use Rattle.shelf_command.specs.Lines.{LineView}
use Rattle.shelf_command.specs.RequestViews.{RequestView}
use Rattle.shelf_command.specs.Words.{word_named}
use Rattle.shelf_command.specs.declared.request.Action.{Action}
use Rattle.shelf_command.specs.declared.request.Action.TheVariants.{Help, HelpOn, Run, Version}
use Rattle.shelf_command.specs.declared.word.Word.{Word}
use Rattle.shelf_command.specs.declared.word.Word.TheVariants.{Explain, ExplainJson, Lint, LintJson, LintOrder, Path, Seal, Tbs}

-- ---- what a subcommand takes

-- its first file is an order or a question
abbrev pub takes_order : Word → Bool
takes_order Tbs = true
takes_order Seal = true
takes_order Lint = false
takes_order LintJson = false
takes_order LintOrder = true
takes_order Path = true
takes_order Explain = false
takes_order ExplainJson = false

abbrev pub takes_signature : Word → Bool
takes_signature Seal = true
takes_signature Tbs = false
takes_signature Lint = false
takes_signature LintJson = false
takes_signature LintOrder = false
takes_signature Path = false
takes_signature Explain = false
takes_signature ExplainJson = false

-- it takes the entries of a revocation list
abbrev pub takes_revoked : Word → Bool
takes_revoked Tbs = true
takes_revoked Seal = true
takes_revoked Lint = false
takes_revoked LintJson = false
takes_revoked LintOrder = true
takes_revoked Path = false
takes_revoked Explain = false
takes_revoked ExplainJson = false

abbrev pub takes_der : Word → Bool
takes_der = takes_signature

-- it has warnings
abbrev pub takes_strict : Word → Bool
takes_strict Tbs = true
takes_strict Seal = true
takes_strict Lint = true
takes_strict LintJson = true
takes_strict LintOrder = true
takes_strict Path = false
takes_strict Explain = false
takes_strict ExplainJson = false

abbrev pub takes_out : Word → Bool
takes_out Tbs = true
takes_out Seal = true
takes_out Explain = true
takes_out ExplainJson = true
takes_out Lint = false
takes_out LintJson = false
takes_out LintOrder = false
takes_out Path = false

-- its order is named by `--order`
abbrev pub is_ordered : Word → Bool
is_ordered LintOrder = true
is_ordered Tbs = false
is_ordered Seal = false
is_ordered Lint = false
is_ordered LintJson = false
is_ordered Path = false
is_ordered Explain = false
is_ordered ExplainJson = false

-- what it is where `--order` is given: `lint` is of an order then
abbrev pub ordered : Word → Bool → Word
ordered Lint false = Lint
ordered Lint true = LintOrder
ordered LintJson has_order = LintJson
ordered LintOrder has_order = LintOrder
ordered Tbs has_order = Tbs
ordered Seal has_order = Seal
ordered Path has_order = Path
ordered Explain has_order = Explain
ordered ExplainJson has_order = ExplainJson

-- what it writes can be JSON
abbrev pub takes_json : Word → Bool
takes_json Lint = true
takes_json LintJson = true
takes_json LintOrder = false
takes_json Tbs = false
takes_json Seal = false
takes_json Path = false
takes_json Explain = true
takes_json ExplainJson = true

-- what it is where `--json` is given
abbrev pub in_form : Word → Bool → Word
in_form Lint false = Lint
in_form Lint true = LintJson
in_form LintJson is_json = LintJson
in_form LintOrder is_json = LintOrder
in_form Tbs is_json = Tbs
in_form Seal is_json = Seal
in_form Path is_json = Path
in_form Explain false = Explain
in_form Explain true = ExplainJson
in_form ExplainJson is_json = ExplainJson

abbrev pub is_same : Bool → Bool → Bool
is_same true b = b
is_same false b = not b

-- the options are ones that the subcommand takes
unfoldable pub takes_options : Word → LineView → Bool
takes_options w l =
    (not l.is_der || takes_der w) && (not l.is_strict || takes_strict w) && (is_none l.out || takes_out w) && (is_none l.revoked || takes_revoked w)

-- `--order` is given only where it is taken
unfoldable pub fits_order : Word → LineView → Bool
fits_order w l = is_none l.order || is_ordered w

-- `--json` is given only where it is taken
unfoldable pub fits_form : Word → LineView → Bool
fits_form w l = not l.is_json || takes_json w

-- and those that it needs are there, and each has its value
abbrev pub allows : Word → LineView → Bool
allows w l = takes_options w l && fits_order w l && fits_form w l && is_same (takes_signature w) (is_some l.signature) && is_none l.awaited

-- ---- its inputs

-- an order or a question has at most 16 MiB, another file at most 64 MiB
abbrev pub order_input : List ℕ → Named
order_input name = record { name = name; limit = 16_777_216 }

abbrev pub file_input : List ℕ → Named
file_input name = record { name = name; limit = 67_108_864 }

-- where no file is named it is standard input
abbrev pub file_inputs : List (List ℕ) → List Named
file_inputs [] = file_input (codes "-") ∷ []
file_inputs (name ∷ names) = map file_input (name ∷ names)

-- the file that an option names
abbrev pub option_inputs : Option (List ℕ) → List Named
option_inputs None = []
option_inputs (Some name) = file_input name ∷ []

-- the names of the files, the one of `--order` before them
abbrev pub ordered_names : Option (List ℕ) → List (List ℕ) → List (List ℕ)
ordered_names None names = names
ordered_names (Some order) names = order ∷ names

-- the order, the signature, the file of `--revoked` and the files, each where it is taken
abbrev pub inputs_after : Bool → Option (List ℕ) → Option (List ℕ) → List (List ℕ) → Option (List Named)
inputs_after false signature revoked names = Some (file_inputs names)
inputs_after true signature revoked [] = None
inputs_after true signature revoked (order ∷ names) =
    Some (order_input order ∷ option_inputs signature ++ option_inputs revoked ++ file_inputs names)

-- standard input can be read once
abbrev pub is_standard : Named → Bool
is_standard n = bytes_eq n.name (codes "-")

abbrev pub is_read_once : List Named → Bool
is_read_once inputs = nat_lt (count_by is_standard inputs) 2

-- ---- the request

abbrev pub about : Action → RequestView
about action = record { action = action; inputs = []; out = None; is_der = false; is_strict = false; has_revoked = false }

abbrev pub with_inputs : Word → LineView → List Named → Option RequestView
with_inputs w l inputs =
    if is_read_once inputs
    then Some (record {
      action = Run (in_form w l.is_json);
      inputs = inputs;
      out = l.out;
      is_der = l.is_der;
      is_strict = l.is_strict;
      has_revoked = is_some l.revoked;
    }) else None

abbrev pub run_as : Word → LineView → Option RequestView
run_as w l =
    if allows w l then option_and_then (with_inputs w l) (inputs_after (takes_order w) l.signature l.revoked (ordered_names l.order l.names)) else None

abbrev pub run_of : Word → LineView → Option RequestView
run_of w l = run_as (ordered w (is_some l.order)) l

abbrev pub request_of : Word → LineView → Option RequestView
request_of w l = if l.is_help then Some (about (HelpOn w)) else run_of w l

abbrev pub subcommand : List ℕ → List (List ℕ) → Option RequestView
subcommand w ws = option_and_then (λ word. option_and_then (request_of word) (line_of no_line ws)) (word_named w)

-- a word alone that isn't a subcommand
unfoldable pub alone : List ℕ → Option Action
alone w = if bytes_eq w (codes "--help") then Some Help else if bytes_eq w (codes "--version") then Some Version else None

abbrev pub by_alone : Option Action → List ℕ → Option RequestView
by_alone (Some action) w = Some (about action)
by_alone None w = subcommand w []

abbrev pub requested : List (List ℕ) → Option RequestView
requested [] = None
requested (w ∷ []) = by_alone (alone w) w
requested (w ∷ v ∷ vs) = subcommand w (v ∷ vs)
