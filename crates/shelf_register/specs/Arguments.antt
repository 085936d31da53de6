-- Which arguments of a subcommand go together.
use Rattle.std.specs.Prelude.{◌≡◌, ℕ, Bool, true, false, ◌||◌, cond, length, nat_eq, not, List, Option, Some, None}
use Rattle.std.specs.Option.{option_or}
use Rattle.shelf_register.specs.Options.{has}
use Rattle.shelf_register.specs.declared.arguments.Misuse.{Misuse}
use Rattle.shelf_register.specs.declared.arguments.Misuse.TheVariants as why
use Rattle.shelf_register.specs.declared.asked.Command.{Command}
use Rattle.shelf_register.specs.declared.asked.Command.TheVariants as command
use Rattle.shelf_register.specs.declared.options.Given.{Given}
use Rattle.shelf_register.specs.declared.options.Opt.TheVariants as opt
use Rattle.shelf_register.specs.declared.word.Word.{Word}
use Rattle.shelf_register.specs.declared.word.Word.TheVariants as word

abbrev pub unless : Bool → Misuse → Option Misuse
unless true m = None
unless false m = Some m

-- a certificate is named by its serial number or by one file
abbrev pub naming_misuse : Bool → ℕ → Option Misuse
naming_misuse true count = unless (nat_eq count 0) why.Both
naming_misuse false count = cond (nat_eq count 0) (Some why.Neither) (unless (nat_eq count 1) why.ManyFiles)

-- so many files come after the options, the register not counted
abbrev pub names_misuse : Word → List Given → ℕ → Option Misuse
names_misuse word.New given count = unless (nat_eq count 1) why.NoIssuer
names_misuse word.Import given count = unless (not (nat_eq count 0)) why.NoInput
names_misuse word.Tbs given count = unless (not (nat_eq count 0)) why.NoOrder
names_misuse word.Revoke given count = naming_misuse (has opt.Serial given) count
names_misuse word.Renew given count = naming_misuse (has opt.Serial given) count
names_misuse word.Export given count = unless (nat_eq count 0) why.Files
names_misuse word.Check given count = unless (nat_eq count 0) why.Files
names_misuse word.Seal given count = unless (nat_eq count 0) why.Files
names_misuse word.List given count = unless (nat_eq count 0) why.Files
names_misuse word.Find given count = unless (nat_eq count 0) why.Files

-- what is sealed already needs no signature, if it is named
abbrev pub seal_misuse : Bool → Bool → Bool → Option Misuse
seal_misuse true has_list has_signature = unless (not has_list) why.SerialAndList
seal_misuse false has_list has_signature = unless (has_list || has_signature) why.NoSignature

abbrev pub list_misuse : Bool → Bool → Bool → Option Misuse
list_misuse true has_scope has_points = unless (not has_scope || has_points) why.ScopeAlone
list_misuse false has_scope has_points = Some why.NoDays

abbrev pub options_misuse : Word → List Given → Option Misuse
options_misuse word.Seal given = seal_misuse (has opt.Serial given) (has opt.List given) (has opt.Signature given)
options_misuse word.Revoke given = unless (has opt.Reason given) why.NoReason
options_misuse word.List given = list_misuse (has opt.Days given) (has opt.Scope given) (has opt.Points given)
options_misuse word.Find given = unless (not (has opt.Json given) || not (has opt.Pem given)) why.JsonAndPem
options_misuse word.New given = None
options_misuse word.Import given = None
options_misuse word.Export given = None
options_misuse word.Check given = None
options_misuse word.Tbs given = None
options_misuse word.Renew given = None

-- why these options with so many files aren't arguments of the subcommand
abbrev pub misuse : Word → List Given → ℕ → Option Misuse
misuse w given count = option_or (names_misuse w given count) (options_misuse w given)

-- the arguments of what is run go together
abbrev pub Fits : Command → Type 0
Fits (command.Run asked) = misuse asked.word asked.line.given.items (length asked.line.names.items) ≡ None
Fits (command.HelpOn w) = Unit {0}
Fits (command.Wrong text) = Unit {0}
