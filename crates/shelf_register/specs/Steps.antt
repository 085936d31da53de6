-- What a subcommand comes to on a record: the event that is recorded, if there is one, and the text that is written.
use Rattle.std.specs.Prelude.{◌≡◌, ◌⊎◌, ℕ, ℤ, Bool, List, [], ◌∷◌, Option, Some, None}
use Rattle.register_record.specs.Records.{State}
use Rattle.register_record.specs.declared.event.Event.{Event}
use Rattle.register_record.specs.declared.event.Event.TheVariants as event
use Rattle.register_record.specs.declared.event.Reason.{Reason}
use Rattle.register_record.specs.declared.state.Certificate.{Certificate}
use Rattle.register_record.specs.declared.state.Content.TheVariants.{Sealed}
use Rattle.register_record.specs.declared.state.RevocationList.{RevocationList}
use Rattle.register_words.specs.declared.finding.Query.{Query}
use Rattle.shelf_command.specs.RequestViews.{RequestView}
use Rattle.shelf_command.specs.declared.request.Action.TheVariants.{Run}
use Rattle.shelf_command.specs.declared.word.Word.TheVariants as filter
use Rattle.shelf_register.specs.Finding.{AreShown}
use Rattle.shelf_register.specs.Issued.{IsIssued}
use Rattle.shelf_register.specs.Listing.{IsListed}
use Rattle.shelf_register.specs.Naming.{IsNamed}
use Rattle.shelf_register.specs.Renewing.{IsRenewal}
use Rattle.shelf_register.specs.Revoking.{Records, changed_status}
use Rattle.shelf_register.specs.Sealing.{SealsAs, label, list_label}
use Rattle.shelf_register.specs.Options.{IsQuery, form_of, kind_of, value_of}
use Rattle.shelf_register.specs.declared.options.Given.{Given}
use Rattle.shelf_register.specs.declared.options.Opt.TheVariants as opt
use Rattle.shelf_register.specs.declared.word.Word.{Word}
use Rattle.shelf_register.specs.declared.word.Word.TheVariants as word

-- the certificate is one of these
abbrev pub Has : Certificate → List Certificate → Type 0
Has c [] = ⊥
Has c (x ∷ xs) = (x ≡ c) ⊎ Has c xs

-- `tbs`: what the filter writes for the order, which is the first input
pub record IsTbs (s : State) (random : List ℕ) (inputs : List (List ℕ)) (e : Option Event) (text : List ℕ) : Type 0 where
  pub request : RequestView
  pub action : request.action ≡ Run filter.Tbs
  pub order : List ℕ
  pub files : List (List ℕ)
  pub inputs_are : inputs ≡ order ∷ files
  pub issued : IsIssued request s random order files e text

-- `seal` of a message of the record, a certificate's or the last list's
pub record IsSealOf (s : State) (c : Certificate) (e : Option Event) (text : List ℕ) : Type 0 where
  pub is_der : Bool
  pub seals : SealsAs s is_der (label c.kind) c.content (event.Sealed c.serial) e text

pub record IsSealOfList (s : State) (l : RevocationList) (e : Option Event) (text : List ℕ) : Type 0 where
  pub is_der : Bool
  pub seals : SealsAs s is_der list_label l.content (event.ListSealed l.number) e text

abbrev pub IsSeal : State → Option Event → List ℕ → Type 0
IsSeal s e text =
    ((c : Certificate) × Has c s.certificates × IsSealOf s c e text) ⊎ ((l : RevocationList) × (s.last ≡ Some l) × IsSealOfList s l e text)

-- `revoke` of the certificate that the arguments name: what the record decides
pub record IsRevoke (given : List Given) (s : State) (now : ℤ) (inputs : List (List ℕ)) (e : Option Event) (text : List ℕ) : Type 0 where
  pub certificate : Certificate
  pub has : Has certificate s.certificates
  pub named : IsNamed (value_of opt.Serial given) inputs certificate
  pub reason : Option Reason
  pub time : ℤ
  pub invalidity_date : Option ℤ
  pub records : Records (changed_status s certificate.serial reason time invalidity_date now) e
  pub nothing : text ≡ []

-- `list`: the message of the next list, of the kind that the options say
pub record IsList (given : List Given) (s : State) (now : ℤ) (e : Option Event) (text : List ℕ) : Type 0 where
  pub request : RequestView
  pub action : request.action ≡ Run filter.Tbs
  pub this_update : ℤ
  pub next_update : ℤ
  pub more : List ℕ
  pub listed : IsListed request s (kind_of given) this_update next_update now more e text

-- `find`: those certificates of the record that the options ask for
pub record IsFind (given : List Given) (s : State) (now : ℤ) (e : Option Event) (text : List ℕ) : Type 0 where
  pub query : Query
  pub query_is : IsQuery given now query
  pub shown : AreShown (form_of given) query (value_of opt.Name given) s.certificates text
  pub unrecorded : e ≡ None

-- `renew` of the certificate that the arguments name
pub record IsRenew (given : List Given) (s : State) (random : List ℕ) (inputs : List (List ℕ)) (e : Option Event) (text : List ℕ) : Type 0 where
  pub former : Certificate
  pub has : Has former s.certificates
  pub named : IsNamed (value_of opt.Serial given) inputs former
  pub octets : List ℕ
  pub is_sealed : former.content ≡ Sealed octets
  pub renewal : IsRenewal s octets random e text

-- of the other subcommands there is no step
abbrev pub IsStep : Word → List Given → State → List ℕ → ℤ → List (List ℕ) → Option Event → List ℕ → Type 0
IsStep word.Tbs given s random now inputs e text = IsTbs s random inputs e text
IsStep word.Seal given s random now inputs e text = IsSeal s e text
IsStep word.Revoke given s random now inputs e text = IsRevoke given s now inputs e text
IsStep word.List given s random now inputs e text = IsList given s now e text
IsStep word.Find given s random now inputs e text = IsFind given s now e text
IsStep word.Renew given s random now inputs e text = IsRenew given s random inputs e text
IsStep word.New given s random now inputs e text = (e ≡ None) × (text ≡ [])
IsStep word.Import given s random now inputs e text = (e ≡ None) × (text ≡ [])
IsStep word.Export given s random now inputs e text = (e ≡ None) × (text ≡ [])
IsStep word.Check given s random now inputs e text = (e ≡ None) × (text ≡ [])
