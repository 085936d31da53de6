-- What `tbs` comes to on a record.
use Rattle.std.specs.Prelude.{◌≡◌, ◌⊎◌, ℕ, ℤ, Bool, true, false, List, [], ◌∷◌, ◌++◌, codes, Option, Some, None}
use Rattle.command_run.specs.declared.status.Ending.TheVariants.{Done}
use Rattle.hex.specs.Hex.{encode_lower}
use Rattle.register_record.specs.Following.{reserved_fault}
use Rattle.register_record.specs.Records.{State}
use Rattle.register_record.specs.declared.event.Event.{Event}
use Rattle.register_record.specs.declared.event.Event.TheVariants as event
use Rattle.register_record.specs.declared.event.Kind.{Kind}
use Rattle.register_steps.specs.Messages.{described}
use Rattle.register_words.specs.Draw.{drawn}
use Rattle.shelf_command.specs.RequestViews.{RequestView}
use Rattle.shelf_core.specs.Answers.{answers}

-- the order without a byte order mark
abbrev pub IsPlain : List ℕ → List ℕ → Type 0
IsPlain order plain = (plain ≡ order) ⊎ (order ≡ 239 ∷ 187 ∷ 191 ∷ plain)

-- a line of a key and its text
abbrev pub key_line : List ℕ → List ℕ → List ℕ
key_line key text = key ++ codes " = \"" ++ text ++ codes "\"\n"

-- where a serial number is lacking, the line of one that is drawn at random and isn't taken
abbrev pub IsSerialLine : Bool → State → List ℕ → List ℕ → Type 0
IsSerialLine false s random line = line ≡ []
IsSerialLine true s random line = (line ≡ key_line (codes "serial") (encode_lower (drawn random))) × (reserved_fault (drawn random) s ≡ None)

-- where a start is lacking, the line of a time
abbrev pub IsStartLine : Bool → List ℕ → Type 0
IsStartLine false line = line ≡ []
IsStartLine true line = (time : List ℕ) × (line ≡ key_line (codes "start") time)

-- the lines that come before an order
pub record AreAdded (s : State) (random lines : List ℕ) : Type 0 where
  pub lacks_serial : Bool
  pub lacks_start : Bool
  pub serial : List ℕ
  pub serial_is : IsSerialLine lacks_serial s random serial
  pub start : List ℕ
  pub start_is : IsStartLine lacks_start start
  pub lines_are : lines ≡ serial ++ start

-- the event reserves the serial number of this message, which isn't taken, for what the message says
pub record Reserves (s : State) (message : List ℕ) (e : Option Event) : Type 0 where
  pub serial : List ℕ
  pub kind : Kind
  pub not_after : ℤ
  pub says : described message ≡ Some (record { kind = kind; serial = serial; not_after = not_after })
  pub free : reserved_fault serial s ≡ None
  pub event_is : e ≡ Some (event.Reserved serial kind not_after message)

-- the text is what `shelf tbs` writes for lines and the order, its files and the issuer's certificate, and the event reserves its serial number
pub record IsIssued (r : RequestView) (s : State) (random order : List ℕ) (files : List (List ℕ)) (e : Option Event) (text : List ℕ) : Type 0 where
  pub lines : List ℕ
  pub added : AreAdded s random lines
  pub plain : List ℕ
  pub is_plain : IsPlain order plain
  pub issuer : List ℕ
  pub has_issuer : s.issuer ≡ Some issuer
  pub told : List ℕ
  pub answer : answers r ((lines ++ plain) ∷ (files ++ issuer ∷ [])) Done text told
  pub reserves : Reserves s text e
