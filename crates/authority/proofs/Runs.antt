-- Runs of the book.
use Rattle.std.specs.Prelude.{◌≡◌, ℕ, ℤ, suc, Bool, true, false, nat_lt, nat_eq, ◌+◌, ◌<◌, ◌≤◌, ◌^◌, ◌==◌, ◌||◌, cond, refl}
use Rattle.std.specs.Prelude.{List, [], ◌∷◌, ◌++◌, length, get_or, take, map, Option, Some, None, Result, Ok, Err, OnErr}
use Rattle.std.specs.List.{AllByRecursion, AllZip, IsDistinct}
use Rattle.std.specs.Option.{option_map}
use Rattle.std.proofs.Common.{sym, ap, ◌∙◌, subst, append-nil, append_assoc, arith}
use Rattle.std.proofs.lemmas.List.{map-append, take_more}
use Rattle.asn1_core.specs.Binds.{true_and}
use Rattle.asn1_core.specs.Twos.{unsigned}
use Rattle.der_tree.specs.Form.{IsDerOf}
use Rattle.der_tree.specs.PrimitiveTypes.{integer}
use Rattle.pkix_cert.specs.Certificates.{certificate}
use Rattle.pkix_cert.specs.Distributions.{issuing_distribution_point}
use Rattle.pkix_cert.specs.Revocations.{certificate_list}
use Rattle.pkix_cert.specs.declared.certificate.Certificate.{Certificate}
use Rattle.pkix_cert.specs.declared.revocation.CertificateList.{CertificateList}
use Rattle.pkix_cert.specs.declared.revocation.RevokedCertificate.{RevokedCertificate}
use Rattle.rcgen_text.specs.Causes.{cause, time}
use Rattle.rcgen_sign.specs.Keys.{Key}
use Rattle.rcgen_certificate.specs.ExtensionRows.{extension_row}
use Rattle.pkix_cert.specs.ExtensionIds.{ce_crl_number, ce_issuing_distribution_point, id_ce}
use Rattle.rcgen_certificate.specs.Issuers.{IssuerView, key_of, view_of}
use Rattle.rcgen_issue.specs.Entries.{IsEntry}
use Rattle.rcgen_certificate.specs.Issue.{Issues}
use Rattle.rcgen_certificate.specs.ParamsView.{ParamsView}
use Rattle.rcgen_certificate.specs.WrittenTimes.{is_utc}
use Rattle.rcgen_issue.specs.CrlView.{CrlView, RevokedView}
use Rattle.rcgen_issue.specs.Lists.{IssuesCrl, issuing_point_value}
use Rattle.rcgen_text.specs.declared.revocation_reason.RevocationReason.{RevocationReason}
use Rattle.authority.specs.Asks.{asked_crl, asked_params, revocation}
use Rattle.authority.specs.Authorities.{fixed_of, issuer_of, limits_of, state_of}
use Rattle.authority.specs.Book.{Fixed, fixed, State, nothing, revoked_in, IsBook, Step, Run, RefusalCause, revocation_cause, is_full}
use Rattle.authority.specs.Book.{unknown_serial, already_revoked, refused}
use Rattle.authority.specs.CommandView.{CommandView, command_view, to_issue, to_list, to_revoke}
use Rattle.authority.specs.Laws.{revoked_by, ListsSerials, NamesIssuer, IsOfIssuer}
use Rattle.authority.specs.Marks.{is_revoked}
use Rattle.authority.specs.declared.authority.Authority.{Authority}
use Rattle.authority.specs.declared.commands.Command.{Command}
use Rattle.authority.specs.declared.commands.Reply.{Reply}
use Rattle.authority.specs.declared.commands.Reply.TheVariants as reply
use Rattle.authority.proofs.Entries.{entry_behind, entry_taken, more_issued}
use Rattle.authority.proofs.Marks.{named_more, none_named, number_of, serials_more}

-- a run after a run
pub joined : (f : Fixed) (old mid new : State) (cs ds : List CommandView) (rs qs : List Reply) → Run f old cs rs mid → Run f mid ds qs new
    → Run f old (cs ++ ds) (rs ++ qs) new
joined f old mid new [] ds [] qs first second = subst (λ s. Run f s ds qs new) first second
joined f old mid new [] ds (r ∷ rs) qs first second = absurd first
joined f old mid new (c ∷ cs) ds [] qs first second = absurd first
joined f old mid new (c ∷ cs) ds (r ∷ rs) qs first second = (first.0, first.1, joined f first.0 mid new cs ds rs qs first.2 second)

-- a run of some commands and others
pub parted : (f : Fixed) (old new : State) (cs ds : List CommandView) (rs : List Reply) → Run f old (cs ++ ds) rs new
    → (told then : List Reply) × (mid : State) × (rs ≡ told ++ then) × Run f old cs told mid × Run f mid ds then new
parted f old new [] ds rs run = ([], rs, old, refl, refl, run)
parted f old new (c ∷ cs) ds [] run = absurd run
parted f old new (c ∷ cs) ds (r ∷ rs) run =
    let p = parted f run.0 new cs ds rs run.2 in
    (r ∷ p.0, p.1, p.2, ap (λ qs. r ∷ qs) p.3, (run.0, run.1, p.4), p.5)

-- a step is a run of one command
pub one_step : (f : Fixed) (old new : State) (c : CommandView) (r : Reply) → Step f old c r new → Run f old (c ∷ []) (r ∷ []) new
one_step f old new c r step = (new, step, refl)

-- a run goes on by a step
goes_on : (f : Fixed) (old mid new : State) (cs : List CommandView) (rs : List Reply) (c : CommandView) (r : Reply)
    → Run f old cs rs mid → Step f mid c r new → Run f old (cs ++ c ∷ []) (rs ++ r ∷ []) new
goes_on f old mid new cs rs c r run step = joined f old mid new cs (c ∷ []) rs (r ∷ []) run (one_step f mid new c r step)

-- what is fixed of authorities whose issuers have one view and one key, and whose limits are the same
pub same_fixed : {S : Type 0} (key : S → Key) (fits : S → List ℕ → List ℕ → Type 0) (may_refuse : S → List ℕ → Type 0) (a b : Authority S)
    → view_of key (issuer_of a) ≡ view_of key (issuer_of b) → key_of (issuer_of a) ≡ key_of (issuer_of b) → limits_of a ≡ limits_of b
    → fixed_of key fits may_refuse a ≡ fixed_of key fits may_refuse b
same_fixed key fits may_refuse a b view own limits = λ i. fixed (view i) (fits (own i)) (may_refuse (own i)) (limits i)

-- the commands so far and the next one
pub run_more : {S : Type 0} (key : S → Key) (fits : S → List ℕ → List ℕ → Type 0) (may_refuse : S → List ℕ → Type 0) (start mid : Authority S)
    (old new : State) (cs : List Command) (i : ℕ) (x : Command) (rs qs : List Reply) (r : Reply) → i < length cs → x ≡ get_or cs i x
    → issuer_of mid ≡ issuer_of start → limits_of mid ≡ limits_of start
    → Run (fixed_of key fits may_refuse start) old (map command_view (take i cs)) rs (state_of mid)
    → Step (fixed_of key fits may_refuse mid) (state_of mid) (command_view x) r new → qs ≡ rs ++ r ∷ []
    → Run (fixed_of key fits may_refuse start) old (map command_view (take (i + 1) cs)) qs new
run_more key fits may_refuse start mid old new cs i x rs qs r within at issuer limits run step more =
    let f = fixed_of key fits may_refuse start in
    let same = same_fixed key fits may_refuse mid start (ap (view_of key) issuer) (ap key_of issuer) limits in
    let front = ap (map command_view) (take_more cs i x within ∙ ap (λ y. take i cs ++ y ∷ []) (sym at)) ∙ map-append command_view (take i cs) (x ∷ []) in
    subst (λ ps. Run f old (map command_view (take (i + 1) cs)) ps new) (sym more)
    (subst (λ ds. Run f old ds (rs ++ r ∷ []) new) (sym front)
    (goes_on f old (state_of mid) new (map command_view (take i cs)) rs (command_view x) r run
    (subst (λ g. Step g (state_of mid) (command_view x) r new) same step)))

pub on_error : {T E P : Type 0} (r : Result T E) → P → OnErr r P
on_error (Ok x) p = tt
on_error (Err e) p = p

-- ---- what is revoked along a run

-- a step keeps the book, and what it adds to the revoked is what its reply says
record Goes (old new : State) (r : Reply) : Type 0 where
  keeps : IsBook new
  joins : (rs : List Reply) → revoked_in new ++ revoked_by rs ≡ revoked_in old ++ revoked_by (r ∷ rs)

one_more : (limit issued : ℕ) → is_full limit issued ≡ false → limit < 2 ^ 64 → suc issued < 2 ^ 64
one_more limit issued h short = grind (arith, short)

-- the tests before an entry is put
free : (a b c : Bool) (x y z : RefusalCause) → cond a (Some x) (cond b (Some y) (cond c None (Some z))) ≡ None
    → (a ≡ false) × (b ≡ false) × (c ≡ true)
free true b c x y z e = absurd (cc)
free false true c x y z e = absurd (cc)
free false false true x y z e = (refl, refl, refl)
free false false false x y z e = absurd (cc)

was_issued : (serial issued : ℕ) → (serial == 0 || nat_lt issued serial) ≡ false → serial ≤ issued
was_issued serial issued h = grind arith

moved : (old s t : State) (r : Reply) → t ≡ s → Goes old s r → Goes old t r
moved old s t r e g = subst (λ u. Goes old u r) (sym e) g

stays : (old new : State) (r : Reply) → new ≡ old → IsBook old → ((rs : List Reply) → revoked_by (r ∷ rs) ≡ revoked_by rs) → Goes old new r
stays old new r e keeps same = moved old old new r e (record { keeps = keeps; joins = λ rs. ap (λ ns. revoked_in old ++ ns) (sym (same rs)) })

-- the entry of a serial number that was issued, and wasn't revoked
enters : (old : State) (serial told : ℕ) (at : ℤ) (reason : Option RevocationReason) → IsBook old → revocation_cause old serial at ≡ None → told ≡ serial
    → Goes old (record old { entries = old.entries ++ revocation serial at reason ∷ [] }) (reply.Revoked told)
enters old serial told at reason keeps none same =
    let e = revocation serial at reason in
    let tests = free (serial == 0 || nat_lt old.issued serial) (is_revoked serial old.entries) (is_utc at) unknown_serial already_revoked
    (refused (cause time)) none in
    let short : serial < 2 ^ 64 = grind (arith, was_issued serial old.issued tests.0, keeps.counted) in
    record {
      keeps = record {
        counted = keeps.counted;
        entries = named_more old.entries e serial keeps.entries refl short tests.1;
        no_cause = entry_behind old.issued [] old.entries e keeps.no_cause
            (entry_taken old.issued old.entries e serial refl short tests.0 tests.1 (true_and (is_utc at) true tests.2 refl));
      };
      joins = λ rs. ap (λ ns. ns ++ revoked_by rs) (serials_more old.entries e told (number_of e serial refl short ∙ sym same))
          ∙ append_assoc (revoked_in old) (told ∷ []) (revoked_by rs);
    }

goes : (f : Fixed) (old new : State) (c : CommandView) (r : Reply) → f.limits.certificates < 2 ^ 64 → IsBook old → Step f old c r new → Goes old new r
goes f old new (to_issue k n a b) (reply.Issued s der) short keeps step = moved old (record old { issued = s }) new (reply.Issued s der) step.3 (record {
  keeps = record {
    counted = rw step.1 (one_more f.limits.certificates old.issued step.0 short);
    entries = keeps.entries;
    no_cause = rw step.1 (more_issued old.issued (suc old.issued) [] old.entries (omega arith) keeps.no_cause);
  };
  joins = λ rs. refl;
})
goes f old new (to_issue k n a b) (reply.Refused r) short keeps step = stays old new (reply.Refused r) step.0 keeps (λ rs. refl)
goes f old new (to_revoke s t w) (reply.Revoked u) short keeps step =
    moved old (record old { entries = old.entries ++ revocation s t w ∷ [] }) new (reply.Revoked u) step.2
    (enters old s u t w keeps step.0 step.1)
goes f old new (to_revoke s t w) (reply.Refused r) short keeps step = stays old new (reply.Refused r) step.0 keeps (λ rs. refl)
goes f old new (to_list t n) (reply.Listed m der) short keeps step = moved old (record old { lists = m }) new (reply.Listed m der) step.3 (record {
  keeps = record { counted = keeps.counted; entries = keeps.entries; no_cause = keeps.no_cause };
  joins = λ rs. refl;
})
goes f old new (to_list t n) (reply.Refused r) short keeps step = stays old new (reply.Refused r) step.0 keeps (λ rs. refl)
goes f old new _ _ short keeps step = absurd step

pub run_keeps : (f : Fixed) (old new : State) (cs : List CommandView) (rs : List Reply) → f.limits.certificates < 2 ^ 64 → IsBook old
    → Run f old cs rs new → IsBook new
run_keeps f old new [] [] short keeps run = subst (λ s. IsBook s) (sym run) keeps
run_keeps f old new [] (r ∷ rs) short keeps run = absurd run
run_keeps f old new (c ∷ cs) [] short keeps run = absurd run
run_keeps f old new (c ∷ cs) (r ∷ rs) short keeps run = run_keeps f run.0 new cs rs short (goes f old run.0 c r short keeps run.1).keeps run.2

pub nothing_is_book : IsBook nothing
nothing_is_book = record { counted = omega arith; entries = none_named; no_cause = refl }

-- ---- lists

-- the serial numbers of the entries as they are written
written : (ps : List RevokedView) (es : List RevokedCertificate) → AllZip IsEntry ps es
    → map (λ e. e.user_certificate) es ≡ map unsigned (map (λ p. p.serial_number) ps)
written [] [] z = refl
written [] (e ∷ es) z = absurd z
written (p ∷ ps) [] z = absurd z
written (p ∷ ps) (e ∷ es) z = λ i. z.0.user_certificate i ∷ written ps es z.1 i

listed_serials : (f : Fixed) (old new : State) (c : CommandView) (m : ℕ) (der : List ℕ) → IsBook old → Step f old c (reply.Listed m der) new
    → ListsSerials (revoked_in old) der
listed_serials f old new (to_list t n) m der keeps step =
    let l = step.2.listed in
    record {
      list = l.0;
      form = l.1.form;
      entries = written old.entries l.0.tbs_cert_list.revoked_certificates l.1.issued.to_be_signed.entries
          ∙ ap (map unsigned) keeps.entries.written;
    }
listed_serials f old new _ m der keeps step = absurd step

-- a list is of what was revoked before the run, and before the list
pub lists_revoked : (f : Fixed) (old new : State) (cs : List CommandView) (before after : List Reply) (m : ℕ) (der : List ℕ)
    → f.limits.certificates < 2 ^ 64 → IsBook old → Run f old cs (before ++ reply.Listed m der ∷ after) new
    → ListsSerials (revoked_in old ++ revoked_by before) der × IsDistinct nat_eq (revoked_in old ++ revoked_by before)
lists_revoked f old new [] [] after m der short keeps run = absurd run
lists_revoked f old new [] (r ∷ before) after m der short keeps run = absurd run
lists_revoked f old new (c ∷ cs) [] after m der short keeps run = (
  subst (λ ns. ListsSerials ns der) (sym (append-nil (revoked_in old))) (listed_serials f old run.0 c m der keeps run.1),
  subst (λ ns. IsDistinct nat_eq ns) (sym (append-nil (revoked_in old))) keeps.entries.distinct,
)
lists_revoked f old new (c ∷ cs) (r ∷ before) after m der short keeps run =
    let g = goes f old run.0 c r short keeps run.1 in
    subst (λ ns. ListsSerials ns der × IsDistinct nat_eq ns) (g.joins before) (lists_revoked f run.0 new cs before after m der short g.keeps run.2)

-- ---- the issuer

certificate_rows : (issuer : IssuerView) (fits : List ℕ → List ℕ → Type 0) (subject : Key) (params : ParamsView) (der : List ℕ)
    → params.use_authority_key_identifier_extension ≡ true → Issues params subject issuer fits der
    → (c : Certificate) × IsDerOf certificate c der × NamesIssuer issuer c.tbs_certificate.issuer c.tbs_certificate.extensions
certificate_rows issuer fits subject params der names i =
    let t = i.1.issued.to_be_signed in
    (i.0, i.1.form, record { name = t.issuer_name; rest = _; rows = rw names at t.extensions })

list_rows : (issuer : IssuerView) (fits : List ℕ → List ℕ → Type 0) (params : CrlView) (der : List ℕ)
    → params.key_identifier_method ≡ None → IssuesCrl params issuer fits der
    → (c : CertificateList) × IsDerOf certificate_list c der × NamesIssuer issuer c.tbs_cert_list.issuer c.tbs_cert_list.crl_extensions
list_rows issuer fits params der own l =
    let t = l.1.issued.to_be_signed in (
      l.0,
      l.1.form,
      record {
        name = t.issuer_name;
        rest = extension_row (id_ce ce_crl_number) false integer (Some (unsigned params.crl_number))
            ++ extension_row (id_ce ce_issuing_distribution_point) true issuing_distribution_point
            (option_map issuing_point_value params.issuing_distribution_point);
        rows = rw own at t.extensions;
      },
    )

of_issuer : (f : Fixed) (old new : State) (c : CommandView) (r : Reply) → Step f old c r new → IsOfIssuer f.issuer r
of_issuer f old new (to_issue k n a b) (reply.Issued s der) step = certificate_rows f.issuer f.fits k (asked_params s n a b) der refl step.2.issued
of_issuer f old new (to_list t n) (reply.Listed m der) step = list_rows f.issuer f.fits (asked_crl m t n old.entries) der refl step.2.listed
of_issuer f old new _ (reply.Revoked s) step = tt
of_issuer f old new _ (reply.Refused r) step = tt
of_issuer f old new _ _ step = absurd step

pub all_of_issuer : (f : Fixed) (old new : State) (cs : List CommandView) (rs : List Reply) → Run f old cs rs new → AllByRecursion (IsOfIssuer f.issuer) rs
all_of_issuer f old new [] [] run = tt
all_of_issuer f old new [] (r ∷ rs) run = absurd run
all_of_issuer f old new (c ∷ cs) [] run = absurd run
all_of_issuer f old new (c ∷ cs) (r ∷ rs) run = (of_issuer f old run.0 c r run.1, all_of_issuer f run.0 new cs rs run.2)
