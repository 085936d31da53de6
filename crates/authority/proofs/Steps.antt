-- Steps of the book, from what the calls that issue say.
use Rattle.std.specs.Prelude.{◌≡◌, ◌≢◌, ℕ, ℤ, suc, ◌+◌, ◌<◌, false, List, Option, None, Result, Ok, Err, IfOk, IfErr, OnOk, IsErrAnd, refl}
use Rattle.std.specs.Int.{w64, to_be_bytes}
use Rattle.std.proofs.Common.{sym, subst, arith}
use Rattle.asn1_core.specs.declared.error.OutOfMemory.{OutOfMemory}
use Rattle.rcgen_text.specs.Causes.{Cause, Origin, memory, key, cause, origin_of, Explains}
use Rattle.rcgen_text.specs.Names.{Entry}
use Rattle.rcgen_text.specs.declared.error.Error.{Error}
use Rattle.rcgen_sign.specs.Keys.{Key}
use Rattle.rcgen_certificate.specs.Issue.{first_cause, Issues, Refuses}
use Rattle.rcgen_certificate.specs.Issuers.{IssuerView}
use Rattle.rcgen_certificate.specs.ParamsView.{ParamsView}
use Rattle.rcgen_issue.specs.CrlView.{CrlView, RevokedView}
use Rattle.rcgen_issue.specs.Lists.{first_crl_cause, IssuesCrl, RefusesCrl}
use Rattle.authority.specs.Asks.{asked_crl, asked_params}
use Rattle.authority.specs.Book.{is_full, Fails, Fixed, IsCauseOf, IsReplyFor, IssuesFor, IsToldAs, Step, ListsThese, OrMemory, RefusesIssue}
use Rattle.authority.specs.Book.{RefusesToList, State}
use Rattle.authority.specs.CommandView.{CommandView, to_issue, to_list}
use Rattle.authority.specs.declared.commands.AuthorityError.{AuthorityError}
use Rattle.authority.specs.declared.commands.AuthorityError.TheVariants as failure
use Rattle.authority.specs.declared.commands.Reply.{Reply}

-- ---- what is asked for

abbrev pub asked_with : List ℕ → ℤ → ℤ → List RevokedView → CrlView
asked_with number this next entries = record {
  this_update = this;
  next_update = next;
  crl_number = number;
  issuing_distribution_point = None;
  revoked_certs = entries;
  key_identifier_method = None;
}

pub crl_is_asked : (number : ℕ) (octets : List ℕ) (this next : ℤ) (es fs : List RevokedView) → octets ≡ to_be_bytes w64 number → es ≡ fs
    → asked_with octets this next es ≡ asked_crl number this next fs
crl_is_asked number octets this next es fs e f = λ i. asked_with (e i) this next (f i)

-- ---- what is signed

-- an error of making it is a refusal, or lack of memory
refused_so : (found : Option Cause) (refuses : Type 0) (o : Origin) → Explains found refuses o → OrMemory (IsCauseOf found refuses) o
refused_so found refuses memory e = tt
refused_so found refuses key e = e
refused_so found refuses (cause c) e = e

pub listed : (issuer : IssuerView) (fits : List ℕ → List ℕ → Type 0) (view asked : CrlView) (r : Result (List ℕ) Error) → view ≡ asked
    → IfOk r (IssuesCrl view issuer fits) → OnOk r (first_crl_cause view issuer ≡ None) → IfOk r (ListsThese issuer fits asked)
listed issuer fits view asked (Ok der) e l n = record {
  no_cause = subst (λ (v : CrlView). first_crl_cause v issuer ≡ None) e n;
  listed = subst (λ (v : CrlView). IssuesCrl v issuer fits der) e l;
}
listed issuer fits view asked (Err x) e l n = tt

pub unlisted : (issuer : IssuerView) (may_refuse : List ℕ → Type 0) (view asked : CrlView) (r : Result (List ℕ) Error) → view ≡ asked
    → IfErr r (λ e. Explains (first_crl_cause view issuer) (RefusesCrl view issuer may_refuse) (origin_of e))
    → IfErr r (λ e. OrMemory (RefusesToList issuer may_refuse asked) (origin_of e))
unlisted issuer may_refuse view asked (Ok der) e w = tt
unlisted issuer may_refuse view asked (Err x) e w =
    subst (λ (v : CrlView). OrMemory (RefusesToList issuer may_refuse v) (origin_of x)) e
    (refused_so (first_crl_cause view issuer) (RefusesCrl view issuer may_refuse) (origin_of x) w)

pub issued : (issuer : IssuerView) (fits : List ℕ → List ℕ → Type 0) (subject : Key) (view asked : ParamsView) (r : Result (List ℕ) Error)
    → view ≡ asked → IfOk r (Issues view subject issuer fits) → OnOk r (first_cause view issuer.name ≡ None)
    → IfOk r (IssuesFor issuer fits subject asked)
issued issuer fits subject view asked (Ok der) e i n = record {
  no_cause = subst (λ (v : ParamsView). first_cause v issuer.name ≡ None) e n;
  issued = subst (λ (v : ParamsView). Issues v subject issuer fits der) e i;
}
issued issuer fits subject view asked (Err x) e i n = tt

pub unissued : (issuer : IssuerView) (may_refuse : List ℕ → Type 0) (subject : Key) (view asked : ParamsView) (r : Result (List ℕ) Error)
    → view ≡ asked → IfErr r (λ e. Explains (first_cause view issuer.name) (Refuses view subject issuer may_refuse) (origin_of e))
    → IfErr r (λ e. OrMemory (RefusesIssue issuer may_refuse subject asked) (origin_of e))
unissued issuer may_refuse subject view asked (Ok der) e w = tt
unissued issuer may_refuse subject view asked (Err x) e w =
    subst (λ (v : ParamsView). OrMemory (RefusesIssue issuer may_refuse subject v) (origin_of x)) e
    (refused_so (first_cause view issuer.name) (Refuses view subject issuer may_refuse) (origin_of x) w)

-- ---- failures

not_memory : (Refuses : Origin → Type 0) (o : Origin) → OrMemory Refuses o → o ≢ memory → Refuses o
not_memory Refuses memory h other = absurd (other refl)
not_memory Refuses key h other = h
not_memory Refuses (cause c) h other = h

list_fails : (f : Fixed) (old : State) (a b : ℤ) (e : Error) (t : AuthorityError) → is_full f.limits.lists old.lists ≡ false
    → OrMemory (RefusesToList f.issuer f.may_refuse (asked_crl (suc old.lists) a b old.entries)) (origin_of e) → IsToldAs e t
    → Fails f old (to_list a b) old t
list_fails f old a b e failure.Full room why told = absurd told
list_fails f old a b e failure.UnknownSerial room why told = absurd told
list_fails f old a b e failure.AlreadyRevoked room why told = absurd told
list_fails f old a b e (failure.Refused r) room why told = (
  refl,
  (
    room,
    subst (λ x. RefusesToList f.issuer f.may_refuse (asked_crl (suc old.lists) a b old.entries) (origin_of x)) (sym told.0)
        (not_memory (RefusesToList f.issuer f.may_refuse (asked_crl (suc old.lists) a b old.entries)) (origin_of e) why told.1),
  ),
)
list_fails f old a b e failure.OutOfMemory room why told = refl

issue_fails : (f : Fixed) (old : State) (subject : Key) (name : List Entry) (a b : ℤ) (e : Error) (t : AuthorityError)
    → is_full f.limits.certificates old.issued ≡ false
    → OrMemory (RefusesIssue f.issuer f.may_refuse subject (asked_params (suc old.issued) name a b)) (origin_of e) → IsToldAs e t
    → Fails f old (to_issue subject name a b) old t
issue_fails f old subject name a b e failure.Full room why told = absurd told
issue_fails f old subject name a b e failure.UnknownSerial room why told = absurd told
issue_fails f old subject name a b e failure.AlreadyRevoked room why told = absurd told
issue_fails f old subject name a b e (failure.Refused r) room why told = (
  refl,
  (
    room,
    subst (λ x. RefusesIssue f.issuer f.may_refuse subject (asked_params (suc old.issued) name a b) (origin_of x)) (sym told.0)
        (not_memory (RefusesIssue f.issuer f.may_refuse subject (asked_params (suc old.issued) name a b)) (origin_of e) why told.1),
  ),
)
issue_fails f old subject name a b e failure.OutOfMemory room why told = refl

-- what a `?` passes on, of an error that is reported as another
pub list_passed : {T : Type 0} (f : Fixed) (old : State) (a b : ℤ) (e : Error) (r : Result T AuthorityError) → is_full f.limits.lists old.lists ≡ false
    → OrMemory (RefusesToList f.issuer f.may_refuse (asked_crl (suc old.lists) a b old.entries)) (origin_of e) → IsErrAnd r (IsToldAs e)
    → IfErr r (Fails f old (to_list a b) old)
list_passed f old a b e (Ok x) room why told = tt
list_passed f old a b e (Err t) room why told = list_fails f old a b e t room why told

pub issue_passed : {T : Type 0} (f : Fixed) (old : State) (subject : Key) (name : List Entry) (a b : ℤ) (e : Error)
    (r : Result T AuthorityError) → is_full f.limits.certificates old.issued ≡ false
    → OrMemory (RefusesIssue f.issuer f.may_refuse subject (asked_params (suc old.issued) name a b)) (origin_of e) → IsErrAnd r (IsToldAs e)
    → IfErr r (Fails f old (to_issue subject name a b) old)
issue_passed f old subject name a b e (Ok x) room why told = tt
issue_passed f old subject name a b e (Err t) room why told = issue_fails f old subject name a b e t room why told

pub room_for : (limit count n : ℕ) → n ≡ count → n < limit → is_full limit count ≡ false
room_for limit count n same below = grind arith

pub next_one : (n count : ℕ) → n ≡ count → n + 1 ≡ suc count
next_one n count same = grind arith

-- a step stays one by equal commands and replies
pub steps_to : (f : Fixed) (old new : State) (given c : CommandView) (r q : Reply) → given ≡ c → r ≡ q → Step f old c q new
    → Step f old given r new
steps_to f old new given c r q same told step =
    subst (λ (d : CommandView). Step f old d r new) (sym same) (subst (λ (x : Reply). Step f old c x new) (sym told) step)

-- a failure that is a reply is a step
replies : (f : Fixed) (old new : State) (c : CommandView) (e : AuthorityError) (r : Result Reply OutOfMemory) → Fails f old c new e
    → IfOk r (IsReplyFor e) → IfOk r (λ x. Step f old c x new)
replies f old new c e (Err x) w h = tt
replies f old new c failure.Full (Ok r) w h = subst (λ x. Step f old c x new) (sym h) w
replies f old new c failure.UnknownSerial (Ok r) w h = subst (λ x. Step f old c x new) (sym h) w
replies f old new c failure.AlreadyRevoked (Ok r) w h = subst (λ x. Step f old c x new) (sym h) w
replies f old new c (failure.Refused e) (Ok r) w h = subst (λ x. Step f old c x new) (sym h) w
replies f old new c failure.OutOfMemory (Ok r) w h = absurd h

-- also of a command that is the one given
pub replies_to : (f : Fixed) (old new : State) (given c : CommandView) (e : AuthorityError) (r : Result Reply OutOfMemory) → given ≡ c
    → Fails f old c new e → IfOk r (IsReplyFor e) → IfOk r (λ x. Step f old given x new)
replies_to f old new given c e r same w h = subst (λ d. IfOk r (λ x. Step f old d x new)) (sym same) (replies f old new c e r w h)
