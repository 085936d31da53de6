-- Which list has taken the place of another (RFC 5280, 5.1.2.4, 5.2.3 and 5.2.5).
use Rattle.std.specs.Prelude.{Bool, List, None, Option, Some, false, not, true, ℕ, ◌&&◌, ◌||◌}
use Rattle.std.specs.List.{list_any}
use Rattle.std.specs.Ordering.{int_cmp, is_le, is_lt}
use Rattle.jiff.specs.Types.{DateTime}
use Rattle.asn1_core.specs.Twos.{signed}
use Rattle.pkix_cert.specs.Times.{moment_of}
use Rattle.pkix_cert.specs.declared.revocation.CertificateList.{CertificateList}
use Rattle.path_names.specs.NameMatching.{names_match}
use Rattle.path_revocation.specs.Deltas.{crl_number}
use Rattle.path_revocation.specs.Lists.{is_complete, is_current, point_contents, same_key, same_octets}
use Rattle.path_revocation.specs.Times.{is_earlier}
use Rattle.path_revocation.specs.declared.delta.Delta.{Delta}
use Rattle.path_revocation.specs.declared.given.GivenList.{GivenList}

-- ---- one issuer, one scope

-- the name of the issuer, the issuing distribution point (5.2.5), and the key under which the lists are signed
unfoldable pub have_one_scope : GivenList → GivenList → Bool
have_one_scope g h =
    names_match g.list.tbs_cert_list.issuer h.list.tbs_cert_list.issuer && same_octets (point_contents g.list) (point_contents h.list)
    && same_key g.issuer h.issuer

-- ---- the newer of two

-- 5.2.3
abbrev pub is_below : Option (List ℕ) → Option (List ℕ) → Bool
is_below (Some a) (Some b) = is_lt (int_cmp (signed a) (signed b))
is_below a b = false

-- the second is issued later, or at the same time with a higher number
unfoldable pub is_older : CertificateList → CertificateList → Bool
is_older l m =
    is_earlier (moment_of l.tbs_cert_list.this_update) (moment_of m.tbs_cert_list.this_update)
    || (not (is_earlier (moment_of m.tbs_cert_list.this_update) (moment_of l.tbs_cert_list.this_update)) && is_below (crl_number l) (crl_number m))

-- 5.2.4: complete lists and delta lists share one sequence of numbers, so that a list with the number of the delta has what the delta has
abbrev pub is_as_new_as : Option Delta → Option (List ℕ) → Bool
is_as_new_as None number = true
is_as_new_as (Some d) (Some number) = is_le (int_cmp (signed d.number) (signed number))
is_as_new_as (Some d) None = false

-- ---- the second takes the place of the first with its delta list: it is a newer one of that issuer and scope, complete and current

unfoldable pub supersedes : DateTime → GivenList → Option Delta → GivenList → Bool
supersedes at g delta h =
    is_older g.list h.list && is_as_new_as delta (crl_number h.list) && have_one_scope g h && is_complete h.list && is_current at h.list

-- one of the lists, each of which can be used and is well signed, does so
unfoldable pub is_superseded : List GivenList → DateTime → GivenList → Option Delta → Bool
is_superseded sound at g delta = list_any (supersedes at g delta) sound
