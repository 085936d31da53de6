-- Lines on certificates, for people.
use Rattle.std.specs.Prelude.{◌≡◌, ℕ, ℤ, Bool, true, false, List, ◌++◌, codes}
use Rattle.hex.specs.Hex.{encode_lower}
use Rattle.register_record.specs.declared.state.Certificate.{Certificate}
use Rattle.register_words.specs.declared.finding.Status.{Status}
use Rattle.register_words.specs.declared.finding.Status.TheVariants as status
use Rattle.register_words.specs.Find.{status_of}
use Rattle.register_lines.specs.Times.{IsTimeText, has_year}

abbrev pub status_word : Status → List ℕ
status_word status.Pending = codes "pending"
status_word status.Issued = codes "issued"
status_word status.OnHold = codes "on hold"
status_word status.Revoked = codes "revoked"

-- the end of its validity; one without a year of four digits has no text
abbrev pub IsEndText : Bool → ℤ → List ℕ → Type 0
IsEndText true seconds text = IsTimeText seconds text
IsEndText false seconds text = text ≡ codes "-"

-- SERIAL, END, STATUS, SUBJECT, with tabs between them
pub record IsFoundLine (c : Certificate) (subject line : List ℕ) : Type 0 where
  pub end : List ℕ
  pub end_is : IsEndText (has_year c.not_after) c.not_after end
  pub line_is :
      line ≡ encode_lower c.serial ++ codes "\t" ++ end ++ codes "\t" ++ status_word (status_of c.content c.change) ++ codes "\t" ++ subject ++ codes "\n"
