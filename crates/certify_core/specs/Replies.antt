-- The lines of what an authority replies.
use Rattle.std.specs.Prelude.{ℕ, List, ◌++◌, codes, decimal}
use Rattle.authority.specs.Book.{RefusalCause, already_revoked, full, refusal_cause, refused, unknown_serial}
use Rattle.authority.specs.declared.commands.Reply.{Reply}
use Rattle.authority.specs.declared.commands.Reply.TheVariants as replies
use Rattle.certify_core.specs.Lines.{hex_line, refused_line}
use Rattle.certify_core.specs.Outcome.{refusal_by}
use Rattle.certify_core.specs.declared.refusal.Refusal.{Refusal}
use Rattle.certify_core.specs.declared.refusal.Refusal.TheVariants as refusal

-- a label, a number, and the bytes that have it
unfoldable pub numbered_line : List ℕ → ℕ → List ℕ → List ℕ
numbered_line label number der = label ++ codes " " ++ decimal number ++ codes " " ++ hex_line der

-- the name of an error's variant; an authority refuses nothing for lack of memory
abbrev pub told_name : Refusal → List ℕ
told_name (refusal.Cause name) = name
told_name _ = codes "OutOfMemory"

-- the name of why a command is refused, and of an error that of the error
abbrev pub refusal_name : RefusalCause → List ℕ
refusal_name full = codes "Full"
refusal_name unknown_serial = codes "UnknownSerial"
refusal_name already_revoked = codes "AlreadyRevoked"
refusal_name (refused o) = told_name (refusal_by o)

abbrev pub reply_line : Reply → List ℕ
reply_line (replies.Issued serial der) = numbered_line (codes "issued") serial der
reply_line (replies.Revoked serial) = codes "revoked " ++ decimal serial ++ codes "\n"
reply_line (replies.Listed number der) = numbered_line (codes "list") number der
reply_line (replies.Refused r) = refused_line (refusal_name (refusal_cause r))
