-- The words of the program: a row each.
use Rattle.std.specs.Prelude.{◌≡◌, ℕ, Bool, if◌then◌else◌, List, [], ◌∷◌, ◌++◌, flat_map, codes, Option, Some, None}
use Rattle.std.specs.Option.{option_map}
use Rattle.std.specs.Str.{bytes_eq}
use Rattle.asn1_core.specs.Binds.{◌>>=◌}
use Rattle.certify_core.specs.Accepting.{accept_profile_of, accepting}
use Rattle.certify_core.specs.AttributeIssuing.{attribute_issuing, attribute_profile_of}
use Rattle.certify_core.specs.Bulk.{bulk_spec}
use Rattle.certify_core.specs.Checking.{check_profile_of, checking}
use Rattle.certify_core.specs.Counts.{IsCount, count_of}
use Rattle.certify_core.specs.Issuing.{issuing}
use Rattle.certify_core.specs.Lines.{status_lines, version_text}
use Rattle.certify_core.specs.ListIssuing.{list_spec, list_profile_of}
use Rattle.certify_core.specs.LookingUp.{looking_up, revoked_profile_of}
use Rattle.certify_core.specs.CommandSpec.{CommandSpec, SpecGives, coming_to, of_document}
use Rattle.certify_core.specs.Outcome.{Outcome, done}
use Rattle.certify_core.specs.Profile.{profile_of}
use Rattle.certify_core.specs.Requesting.{requesting}
use Rattle.certify_core.specs.Restoring.{restore_profile_of, restoring}
use Rattle.certify_core.specs.ScriptRunning.{authority_profile_of, script_running}
use Rattle.certify_core.specs.Showing.{showing}
use Rattle.certify_core.specs.Word.{Word, reading, silent}
use Rattle.certify_core.specs.declared.command.Command.{Command}
use Rattle.certify_core.specs.declared.command.Command.TheVariants.{Issue, Show, Request, Accept, List as OfList, Restore, Attribute, Authority, Revoked, Check, Bulk, Help, Version}

-- ---- how the program is asked for a command

abbrev pub word : Command → Word
word Issue = reading (codes "issue")
    (codes "certify            reads a profile, issues its certificate, and writes its hex and its listing\n" ++ codes "certify issue      the same\n")
word Show = reading (codes "show") (codes "certify show       reads the hex of a certificate, and writes its listing\n")
word Request = reading (codes "request") (codes "certify request    reads a profile, and writes the hex of a request for its certificate\n")
word Accept = reading (codes "accept")
    (codes "certify accept     reads a request and who issues, issues its certificate, and writes its hex and its listing\n")
word OfList = reading (codes "list")
    (codes "certify list       reads what a revocation list is to say and who issues it, and writes its hex\n")
word Restore = reading (codes "restore")
    (codes "certify restore    reads a certificate and its key's secret, and writes the issuer that is restored from them\n")
word Attribute = reading (codes "attribute")
    (codes "certify attribute  reads what an attribute certificate is to say and who issues it, and writes its hex\n")
word Authority = reading (codes "authority")
    (codes "certify authority  reads who issues and commands to it, and writes a line on what comes of each\n")
word Revoked = reading (codes "revoked")
    (codes "certify revoked    reads a revocation list and serial numbers, and writes of each whether the list has it, and where\n")
word Check = reading (codes "check") (codes "certify check      reads a certification path, and writes that it is valid, or where it isn't and why\n")
word (Bulk n) = silent (codes "bulk")
    (codes "certify bulk N     makes a revocation list of N entries, and writes its length and its digest\n")
word Help = silent (codes "--help") (codes "certify --help     writes this text\n")
word Version = silent (codes "--version") (codes "certify --version  writes the name and the version\n")

-- in the order in which `--help` lists them; a word that takes a number is there with some number
abbrev pub commands : List Command
commands = Issue ∷ Show ∷ Request ∷ Accept ∷ OfList ∷ Restore ∷ Attribute ∷ Authority ∷ Revoked ∷ Check ∷ Bulk 1 ∷ Help ∷ Version ∷ []

abbrev pub named_in : List Command → List ℕ → Option Command
named_in [] name = None
named_in (command ∷ rest) name = if bytes_eq name (word command).name then Some command else named_in rest name

-- the command whose word it is
unfoldable pub command_named : List ℕ → Option Command
command_named name = named_in commands name

-- the command with what follows its word; most take nothing there
unfoldable pub taking : Command → List (List ℕ) → Option Command
taking (Bulk n) (argument ∷ []) = option_map Bulk (count_of argument)
taking (Bulk n) arguments = None
taking command [] = Some command
taking command arguments = None

-- the command that the words are; none at all are `issue`
unfoldable pub command_of : List (List ℕ) → Option Command
command_of [] = Some Issue
command_of (name ∷ arguments) = command_named name >>= (λ command. taking command arguments)

-- the words are `bulk` and the text of the number
abbrev pub IsBulk : List (List ℕ) → ℕ → Type 0
IsBulk words n = (text : List ℕ) × (words ≡ codes "bulk" ∷ text ∷ []) × IsCount text n

-- the command takes an input
abbrev pub reads_input : Command → Bool
reads_input command = (word command).reads_input

-- ---- what a command answers

-- the words, and the statuses
abbrev pub help_text : List ℕ
help_text = flat_map (λ command. (word command).help) commands ++ status_lines

-- what is made of an input
abbrev pub spec : Command → List ℕ → CommandSpec
spec Issue input = of_document issuing (profile_of input)
spec Show input = showing input
spec Request input = of_document requesting (profile_of input)
spec Accept input = of_document accepting (accept_profile_of input)
spec OfList input = of_document list_spec (list_profile_of input)
spec Restore input = of_document restoring (restore_profile_of input)
spec Attribute input = of_document attribute_issuing (attribute_profile_of input)
spec Authority input = of_document script_running (authority_profile_of input)
spec Revoked input = of_document looking_up (revoked_profile_of input)
spec Check input = of_document checking (check_profile_of input)
spec (Bulk n) input = bulk_spec n
spec Help input = coming_to (done help_text)
spec Version input = coming_to (done version_text)

-- what an input comes to
abbrev pub Gives : Command → List ℕ → Outcome → Type 0
Gives command input = SpecGives (spec command input)
