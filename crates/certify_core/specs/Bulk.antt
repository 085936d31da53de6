-- A revocation list of so many entries, for measures.
use Rattle.std.specs.Prelude.{ℕ, zero, suc, ◌+◌, ◌*◌, ◌%◌, ◌^◌, Bool, true, not, cond, pos, List, [], ◌∷◌, length, decimal, codes, Some, None}
use Rattle.std.specs.Int.{w64, to_be_bytes}
use Rattle.sha2.specs.Sha256.{sha256}
use Rattle.certify_core.specs.ListIssuing.{written_list}
use Rattle.certify_core.specs.Listing.{◌⨾◌, hex, line}
use Rattle.certify_core.specs.CommandSpec.{CommandSpec}
use Rattle.profile_params.specs.Certificates.{start_of}
use Rattle.certify_profile.specs.declared.issuer.IssuerTable.{IssuerTable}
use Rattle.toml_format.specs.declared.issuer.Name.TheVariants.{CommonName}
use Rattle.toml_format.specs.declared.key_id.KeyId.TheVariants.{Sha256}
use Rattle.toml_format.specs.declared.revocation_list.ListContent.{ListContent}
use Rattle.certify_profile.specs.declared.revocation_list.ListProfile.{ListProfile}
use Rattle.rcgen_text.specs.declared.revocation_reason.RevocationReason.TheVariants.{KeyCompromise}
use Rattle.toml_format.specs.declared.revocation_list.Revoked.{Revoked}

-- the serial number after this one
abbrev pub next_serial : ℕ → ℕ
next_serial serial = (6_364_136_223_846_793_005 * serial + 1_442_695_040_888_963_407) % 2 ^ 64

abbrev pub bulk_entry : ℕ → Bool → Revoked
bulk_entry serial has_reason = record {
  serial = to_be_bytes w64 serial;
  time = start_of (pos 2025);
  reason = cond has_reason (Some KeyCompromise) None;
  invalid = None;
}

-- so many entries after the one with this serial number; every other one has a reason
abbrev pub entries_after : ℕ → Bool → ℕ → List Revoked
entries_after serial has_reason zero = []
entries_after serial has_reason (suc n) =
    bulk_entry (next_serial serial) has_reason ∷ entries_after (next_serial serial) (not has_reason) n

abbrev pub bulk_issuer : IssuerTable
bulk_issuer = record { secret = codes "bulk"; name = CommonName (codes "bulk"); key_usages = []; key_id = Sha256 }

-- what the list says
abbrev pub bulk_content : ℕ → ListContent
bulk_content n = record {
  this_update = start_of (pos 2025);
  next_update = start_of (pos 2026);
  number = to_be_bytes w64 n;
  key_id = Some Sha256;
  point = None;
  revoked = entries_after 1 true n;
}

abbrev pub bulk_list : ℕ → ListProfile
bulk_list n = record { issuer = bulk_issuer; content = bulk_content n }

-- how long its form is, how many entries it has, and the digest of its form
unfoldable pub bulk_lines : ℕ → List ℕ → List ℕ
bulk_lines n der =
    line (codes "length") decimal (length der)
    ⨾ line (codes "entries") decimal n
    ⨾ line (codes "sha256") hex (sha256 der)

abbrev pub bulk_spec : ℕ → CommandSpec
bulk_spec n = written_list (bulk_lines n) (bulk_list n)
