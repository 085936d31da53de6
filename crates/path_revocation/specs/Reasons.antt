-- Sets of reasons (RFC 5280, 4.2.1.13 and 6.3.2).
use Rattle.std.specs.Prelude.{Bool, None, Option, Some, false, not, true, ◌&&◌, ◌||◌}
use Rattle.asn1_core.specs.Bits.{Bits, has_bit}
use Rattle.path_revocation.specs.declared.reasons.Reasons.{Reasons}

-- the special value all-reasons
abbrev pub all_reasons : Reasons
all_reasons = record {
  key_compromise = true;
  ca_compromise = true;
  affiliation_changed = true;
  superseded = true;
  cessation_of_operation = true;
  certificate_hold = true;
  privilege_withdrawn = true;
  aa_compromise = true;
}

-- the empty set
abbrev pub no_reasons : Reasons
no_reasons = record {
  key_compromise = false;
  ca_compromise = false;
  affiliation_changed = false;
  superseded = false;
  cessation_of_operation = false;
  certificate_hold = false;
  privilege_withdrawn = false;
  aa_compromise = false;
}

-- by the bits of ReasonFlags, of which bit 0 is unused
abbrev pub flagged : Bits → Reasons
flagged flags = record {
  key_compromise = has_bit flags 1;
  ca_compromise = has_bit flags 2;
  affiliation_changed = has_bit flags 3;
  superseded = has_bit flags 4;
  cessation_of_operation = has_bit flags 5;
  certificate_hold = has_bit flags 6;
  privilege_withdrawn = has_bit flags 7;
  aa_compromise = has_bit flags 8;
}

-- all, where nothing is said
unfoldable pub reasons_in : Option Bits → Reasons
reasons_in None = all_reasons
reasons_in (Some flags) = flagged flags

unfoldable pub intersection : Reasons → Reasons → Reasons
intersection a b = record {
  key_compromise = a.key_compromise && b.key_compromise;
  ca_compromise = a.ca_compromise && b.ca_compromise;
  affiliation_changed = a.affiliation_changed && b.affiliation_changed;
  superseded = a.superseded && b.superseded;
  cessation_of_operation = a.cessation_of_operation && b.cessation_of_operation;
  certificate_hold = a.certificate_hold && b.certificate_hold;
  privilege_withdrawn = a.privilege_withdrawn && b.privilege_withdrawn;
  aa_compromise = a.aa_compromise && b.aa_compromise;
}

unfoldable pub union : Reasons → Reasons → Reasons
union a b = record {
  key_compromise = a.key_compromise || b.key_compromise;
  ca_compromise = a.ca_compromise || b.ca_compromise;
  affiliation_changed = a.affiliation_changed || b.affiliation_changed;
  superseded = a.superseded || b.superseded;
  cessation_of_operation = a.cessation_of_operation || b.cessation_of_operation;
  certificate_hold = a.certificate_hold || b.certificate_hold;
  privilege_withdrawn = a.privilege_withdrawn || b.privilege_withdrawn;
  aa_compromise = a.aa_compromise || b.aa_compromise;
}

-- each of the first is one of the second
unfoldable pub are_within : Reasons → Reasons → Bool
are_within a b =
    (not a.key_compromise || b.key_compromise)
    && (not a.ca_compromise || b.ca_compromise)
    && (not a.affiliation_changed || b.affiliation_changed)
    && (not a.superseded || b.superseded)
    && (not a.cessation_of_operation || b.cessation_of_operation)
    && (not a.certificate_hold || b.certificate_hold)
    && (not a.privilege_withdrawn || b.privilege_withdrawn)
    && (not a.aa_compromise || b.aa_compromise)

-- all of them
abbrev pub are_all : Reasons → Bool
are_all a = are_within all_reasons a
