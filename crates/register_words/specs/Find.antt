-- What there is of a certificate, and what is asked of certificates.
use Rattle.std.specs.Prelude.{ℕ, ℤ, Bool, true, ◌&&◌, cond, nat_eq, int_le, List, Option, Some, None}
use Rattle.std.specs.Str.{bytes_eq}
use Rattle.register_record.specs.Following.{is_on_hold, is_revoked}
use Rattle.register_record.specs.declared.state.Certificate.{Certificate}
use Rattle.register_record.specs.declared.state.Change.{Change}
use Rattle.register_record.specs.declared.state.Content.{Content}
use Rattle.register_record.specs.declared.state.Content.TheVariants.{Pending, Sealed}
use Rattle.register_words.specs.declared.finding.Query.{Query}
use Rattle.register_words.specs.declared.finding.Status.{Status}
use Rattle.register_words.specs.declared.finding.Status.TheVariants as status

abbrev pub status_of_change : Option Change → Status
status_of_change change = cond (is_on_hold change) status.OnHold (cond (is_revoked change) status.Revoked status.Issued)

abbrev pub status_of : Content → Option Change → Status
status_of (Pending message) change = status.Pending
status_of (Sealed octets) change = status_of_change change

abbrev pub status_number : Status → ℕ
status_number status.Pending = 0
status_number status.Issued = 1
status_number status.OnHold = 2
status_number status.Revoked = 3

abbrev pub has_serial : Option (List ℕ) → List ℕ → Bool
has_serial None serial = true
has_serial (Some asked) serial = bytes_eq serial asked

abbrev pub has_status : Option Status → Certificate → Bool
has_status None c = true
has_status (Some asked) c = nat_eq (status_number (status_of c.content c.change)) (status_number asked)

abbrev pub is_from : Option ℤ → ℤ → Bool
is_from None time = true
is_from (Some from) time = int_le from time

abbrev pub is_to : Option ℤ → ℤ → Bool
is_to None time = true
is_to (Some to) time = int_le time to

abbrev pub matches : Query → Certificate → Bool
matches q c = has_serial q.serial c.serial && has_status q.status c && is_from q.ends_from c.not_after && is_to q.ends_to c.not_after
