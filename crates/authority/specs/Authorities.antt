-- What an authority has fixed beside its book, and the state of its book.
use Rattle.std.specs.Prelude.{ℕ, List, map}
use Rattle.rcgen_sign.specs.Keys.{Key}
use Rattle.rcgen_certificate.specs.Issuers.{key_of, view_of}
use Rattle.rcgen_certificate.specs.declared.issuer.Issuer.{Issuer}
use Rattle.authority.specs.Book.{Fixed, State}
use Rattle.rcgen_issue.specs.CrlView.{revoked_view}
use Rattle.authority.specs.declared.authority.Authority.{Authority}
use Rattle.authority.specs.declared.commands.Limits.{Limits}
use Rattle.authority.specs.declared.commands.Register.{Register}

abbrev pub issuer_of : {S : Type 0} → Authority S → Issuer S
issuer_of a = a.issuer

abbrev pub limits_of : {S : Type 0} → Authority S → Limits
limits_of a = a.limits

abbrev pub state_of : {S : Type 0} → Authority S → State
state_of a = a.book

-- the state that a register describes
abbrev pub registered : Register → State
registered r = record { issued = r.issued; lists = r.lists; entries = map revoked_view r.revoked.items }

-- `key`, `fits` and `may_refuse` are those of the issuer's keys
abbrev pub fixed_of : {S : Type 0} → (S → Key) → (S → List ℕ → List ℕ → Type 0) → (S → List ℕ → Type 0) → Authority S → Fixed
fixed_of key fits may_refuse a = record {
  issuer = view_of key (issuer_of a);
  fits = fits (key_of (issuer_of a));
  may_refuse = may_refuse (key_of (issuer_of a));
  limits = limits_of a;
}
