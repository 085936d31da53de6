-- The book of an authority: what it has issued, listed and revoked, and which replies it gives to commands.
use Rattle.std.specs.Prelude.{◌≡◌, ◌≢◌, ℕ, ℤ, suc, Bool, true, false, not, nat_lt, ◌==◌, ◌||◌, ◌<◌, ◌^◌, cond, List, [], ◌∷◌, ◌++◌, Option, Some, None}
use Rattle.std.specs.Option.{option_or}
use Rattle.rcgen_text.specs.Causes.{Cause, Origin, memory, key, cause, origin_of, time}
use Rattle.rcgen_text.specs.declared.error.Error.{Error}
use Rattle.rcgen_sign.specs.Keys.{Key}
use Rattle.rcgen_certificate.specs.Issue.{first_cause, Issues, Refuses}
use Rattle.rcgen_certificate.specs.Issuers.{IssuerView}
use Rattle.rcgen_certificate.specs.ParamsView.{ParamsView}
use Rattle.rcgen_certificate.specs.WrittenTimes.{is_utc}
use Rattle.rcgen_issue.specs.CrlView.{CrlView, RevokedView}
use Rattle.rcgen_issue.specs.Lists.{first_crl_cause, is_utc_if, IssuesCrl, RefusesCrl}
use Rattle.authority.specs.Asks.{asked_crl, asked_params, revocation}
use Rattle.authority.specs.CommandView.{CommandView, to_issue, to_list, to_revoke}
use Rattle.authority.specs.Marks.{is_numbered, is_revoked, serial_of, serials_of, AreOfDistinctSerials}
use Rattle.authority.specs.declared.commands.AuthorityError.{AuthorityError}
use Rattle.authority.specs.declared.commands.AuthorityError.TheVariants as failure
use Rattle.authority.specs.declared.commands.Limits.{Limits}
use Rattle.authority.specs.declared.commands.Refusal.{Refusal}
use Rattle.authority.specs.declared.commands.Refusal.TheVariants as refusal
use Rattle.authority.specs.declared.commands.Reply.{Reply}
use Rattle.authority.specs.declared.commands.Reply.TheVariants as reply

-- a state: how many certificates were issued, how many lists were made, and the entries, in order
pub record State : Type 0 where
  pub issued : ℕ
  pub lists : ℕ
  pub entries : List RevokedView

abbrev pub nothing : State
nothing = record { issued = 0; lists = 0; entries = [] }

-- the serial numbers that are revoked in a state, in order
abbrev pub revoked_in : State → List ℕ
revoked_in s = serials_of s.entries

-- what is fixed beside it: the issuer, which signatures of its key fit a message, which messages the key may refuse, and how many certificates
-- there may be, and how many lists
pub record Fixed : Type 1 where
  pub issuer : IssuerView
  pub fits : List ℕ → List ℕ → Type 0
  pub may_refuse : List ℕ → Type 0
  pub limits : Limits

abbrev pub fixed : IssuerView → (List ℕ → List ℕ → Type 0) → (List ℕ → Type 0) → Limits → Fixed
fixed issuer fits may_refuse limits = record { issuer = issuer; fits = fits; may_refuse = may_refuse; limits = limits }

-- as many lists as certificates
abbrev pub alike : ℕ → Limits
alike limit = record { certificates = limit; lists = limit }

-- ---- refusals

-- why a command is refused
pub data RefusalCause : Type 0 where
  full : RefusalCause
  unknown_serial : RefusalCause
  already_revoked : RefusalCause
  refused : Origin → RefusalCause

abbrev pub refusal_cause : Refusal → RefusalCause
refusal_cause refusal.Full = full
refusal_cause refusal.UnknownSerial = unknown_serial
refusal_cause refusal.AlreadyRevoked = already_revoked
refusal_cause (refusal.Refused e) = refused (origin_of e)

-- as many as there may be were made
abbrev pub is_full : ℕ → ℕ → Bool
is_full limit count = not (nat_lt count limit)

-- no certificate has that serial number, else an entry is of it, else the time has no form in UTC
abbrev pub serial_cause : ℕ → List RevokedView → ℕ → ℤ → Option RefusalCause
serial_cause issued entries serial at =
    cond (serial == 0 || nat_lt issued serial) (Some unknown_serial)
    (cond (is_revoked serial entries) (Some already_revoked)
    (cond (is_utc at) None (Some (refused (cause time)))))

abbrev pub revocation_cause : State → ℕ → ℤ → Option RefusalCause
revocation_cause s = serial_cause s.issued s.entries

-- ---- entries that are given

-- why one can't follow the others: it hasn't the eight octets of its serial number, else as for a revocation, else its
-- invalidity date has no form in UTC
abbrev pub entry_cause : ℕ → List RevokedView → RevokedView → Option RefusalCause
entry_cause issued others e =
    cond (is_numbered e)
    (option_or (serial_cause issued others (serial_of e) e.revocation_time) (cond (is_utc_if e.invalidity_date) None (Some (refused (cause time)))))
    (Some unknown_serial)

-- the first that can't follow the others and those before it, and why
abbrev pub first_entry_cause : ℕ → List RevokedView → List RevokedView → Option RefusalCause
first_entry_cause issued others [] = None
first_entry_cause issued others (e ∷ es) = option_or (entry_cause issued others e) (first_entry_cause issued (others ++ e ∷ []) es)

-- the first of the state's entries that can't follow those before it, and why
abbrev pub state_cause : State → Option RefusalCause
state_cause s = first_entry_cause s.issued [] s.entries

-- of each state that an authority comes to: the serial numbers are below 2^64, each entry could be put after those
-- before it, and no two are of one serial number
pub record IsBook (s : State) : Type 0 where
  pub counted : s.issued < 2 ^ 64
  pub entries : AreOfDistinctSerials s.entries
  pub no_cause : state_cause s ≡ None

-- It is the cause that there is; where there is none the key alone refuses, if it may. Lack of memory isn't a refusal.
abbrev pub IsCauseOf : Option Cause → Type 0 → Origin → Type 0
IsCauseOf found refuses memory = ⊥
IsCauseOf found refuses key = (found ≡ None) × refuses
IsCauseOf found refuses (cause c) = found ≡ Some c

-- a certificate for these is refused so
abbrev pub RefusesIssue : IssuerView → (List ℕ → Type 0) → Key → ParamsView → Origin → Type 0
RefusesIssue issuer may_refuse subject params o = IsCauseOf (first_cause params issuer.name) (Refuses params subject issuer may_refuse) o

-- a list for these is refused so
abbrev pub RefusesToList : IssuerView → (List ℕ → Type 0) → CrlView → Origin → Type 0
RefusesToList issuer may_refuse params o = IsCauseOf (first_crl_cause params issuer) (RefusesCrl params issuer may_refuse) o

-- the limit is tested first, and then what is asked for
abbrev pub IsFirst : Bool → (Origin → Type 0) → RefusalCause → Type 0
IsFirst reached Refuses full = reached ≡ true
IsFirst reached Refuses unknown_serial = ⊥
IsFirst reached Refuses already_revoked = ⊥
IsFirst reached Refuses (refused o) = (reached ≡ false) × Refuses o

-- ---- steps

-- a certificate is issued for these
pub record IssuesFor (issuer : IssuerView) (fits : List ℕ → List ℕ → Type 0) (subject : Key) (params : ParamsView) (der : List ℕ) : Type 0 where
  pub no_cause : first_cause params issuer.name ≡ None
  pub issued : Issues params subject issuer fits der

-- a list is made for these
pub record ListsThese (issuer : IssuerView) (fits : List ℕ → List ℕ → Type 0) (params : CrlView) (der : List ℕ) : Type 0 where
  pub no_cause : first_crl_cause params issuer ≡ None
  pub listed : IssuesCrl params issuer fits der

-- From old, the authority may give this reply to the command and go on to new.
abbrev pub Step : Fixed → State → CommandView → Reply → State → Type 0
-- the next serial number, and its certificate
Step f old (to_issue subject name not_before not_after) (reply.Issued serial der) new =
    (is_full f.limits.certificates old.issued ≡ false) × (serial ≡ suc old.issued)
    × IssuesFor f.issuer f.fits subject (asked_params serial name not_before not_after) der
    × (new ≡ record old { issued = serial })
Step f old (to_issue subject name not_before not_after) (reply.Refused r) new =
    (new ≡ old)
    × IsFirst (is_full f.limits.certificates old.issued)
    (RefusesIssue f.issuer f.may_refuse subject (asked_params (suc old.issued) name not_before not_after)) (refusal_cause r)
-- an entry at the end
Step f old (to_revoke serial at reason) (reply.Revoked s) new =
    (revocation_cause old serial at ≡ None) × (s ≡ serial)
    × (new ≡ record old { entries = old.entries ++ revocation serial at reason ∷ [] })
Step f old (to_revoke serial at reason) (reply.Refused r) new =
    (new ≡ old) × (revocation_cause old serial at ≡ Some (refusal_cause r))
-- the next number, and the list of the entries
Step f old (to_list this_update next_update) (reply.Listed number der) new =
    (is_full f.limits.lists old.lists ≡ false) × (number ≡ suc old.lists)
    × ListsThese f.issuer f.fits (asked_crl number this_update next_update old.entries) der
    × (new ≡ record old { lists = number })
Step f old (to_list this_update next_update) (reply.Refused r) new =
    (new ≡ old)
    × IsFirst (is_full f.limits.lists old.lists)
    (RefusesToList f.issuer f.may_refuse (asked_crl (suc old.lists) this_update next_update old.entries)) (refusal_cause r)
-- no other reply is given
Step f old _ _ new = ⊥

-- one reply to each command, one step after another
abbrev pub Run : Fixed → State → List CommandView → List Reply → State → Type 0
Run f old [] [] new = new ≡ old
Run f old (c ∷ commands) (r ∷ replies) new = (mid : State) × Step f old c r mid × Run f mid commands replies new
Run f old [] (r ∷ replies) new = ⊥
Run f old (c ∷ commands) [] new = ⊥

-- ---- failures of a call

-- a failure is a step with that refusal, or lack of memory, which changes nothing
abbrev pub Fails : Fixed → State → CommandView → State → AuthorityError → Type 0
Fails f old c new failure.Full = Step f old c (reply.Refused refusal.Full) new
Fails f old c new failure.UnknownSerial = Step f old c (reply.Refused refusal.UnknownSerial) new
Fails f old c new failure.AlreadyRevoked = Step f old c (reply.Refused refusal.AlreadyRevoked) new
Fails f old c new (failure.Refused e) = Step f old c (reply.Refused (refusal.Refused e)) new
Fails f old c new failure.OutOfMemory = new ≡ old

-- the reply that a failure is
abbrev pub IsReplyFor : AuthorityError → Reply → Type 0
IsReplyFor failure.Full r = r ≡ reply.Refused refusal.Full
IsReplyFor failure.UnknownSerial r = r ≡ reply.Refused refusal.UnknownSerial
IsReplyFor failure.AlreadyRevoked r = r ≡ reply.Refused refusal.AlreadyRevoked
IsReplyFor (failure.Refused e) r = r ≡ reply.Refused (refusal.Refused e)
IsReplyFor failure.OutOfMemory r = ⊥

-- an error of a call that issues, as the authority reports it
abbrev pub IsToldAs : Error → AuthorityError → Type 0
IsToldAs e failure.Full = ⊥
IsToldAs e failure.UnknownSerial = ⊥
IsToldAs e failure.AlreadyRevoked = ⊥
IsToldAs e (failure.Refused r) = (r ≡ e) × (origin_of e ≢ memory)
IsToldAs e failure.OutOfMemory = origin_of e ≡ memory

-- it is the cause that was found, or memory ran out, which it may at any time
abbrev pub ExplainsRefusal : Option RefusalCause → AuthorityError → Type 0
ExplainsRefusal found failure.Full = found ≡ Some full
ExplainsRefusal found failure.UnknownSerial = found ≡ Some unknown_serial
ExplainsRefusal found failure.AlreadyRevoked = found ≡ Some already_revoked
ExplainsRefusal found (failure.Refused e) = found ≡ Some (refused (origin_of e))
ExplainsRefusal found failure.OutOfMemory = Unit {0}

-- refused so, or memory ran out, which it may at any time
abbrev pub OrMemory : (Origin → Type 0) → Origin → Type 0
OrMemory Refuses memory = Unit {0}
OrMemory Refuses key = Refuses key
OrMemory Refuses (cause c) = Refuses (cause c)
