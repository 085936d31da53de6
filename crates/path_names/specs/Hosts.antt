-- Hosts, domains, mailboxes and URIs, and which of them a constraint has (RFC 5280, 4.2.1.10 and 7.2 to 7.5).
use Rattle.std.specs.Prelude.{Bool, List, None, Option, Some, cond, drop, false, length, nat_eq, nat_lt, not, true, ℕ, ◌&&◌, ◌+◌, ◌-◌, [], ◌==◌, ◌||◌, ◌∷◌}
use Rattle.std.specs.Char.{is_ascii_alphabetic, is_ascii_alphanumeric, is_ascii_digit, is_ascii_hexdigit}
use Rattle.std.specs.List.{after_last, before_first, before_last, list_all, list_any, slice_split, starts_with}
use Rattle.std.specs.Str.{bytes_eq}
use Rattle.asn1_core.specs.Binds.{◌>>=◌}
use Rattle.path_names.specs.NameMatching.{same_text}
use Rattle.path_names.specs.Preparation.{is_in}

-- ---- hosts (RFC 1034, 3.5; RFC 1123, 2.1)

abbrev pub is_period : ℕ → Bool
is_period c = c == 46

-- a letter, a digit or a hyphen; an underscore too, and the asterisk of a wildcard, which are met, and have no meaning of their own here (4.2.1.6)
abbrev pub is_label_character : ℕ → Bool
is_label_character c = is_ascii_alphanumeric c || (c == 45) || (c == 95) || (c == 42)

abbrev pub is_empty : List ℕ → Bool
is_empty text = length text == 0

abbrev pub is_label : List ℕ → Bool
is_label l = not (is_empty l) && list_all is_label_character l

-- labels, with a period between two
abbrev pub is_host : List ℕ → Bool
is_host text = list_all is_label (slice_split is_period text)

abbrev pub begins_with_period : List ℕ → Bool
begins_with_period [] = false
begins_with_period (c ∷ cs) = is_period c

abbrev pub without_period : List ℕ → List ℕ
without_period [] = []
without_period (c ∷ cs) = cond (is_period c) cs (c ∷ cs)

-- a host, or a period and the host below which the hosts of a domain are
abbrev pub is_host_base : List ℕ → Bool
is_host_base text = is_host (without_period text)

-- something comes first, then a period, and then the domain, without case
abbrev pub is_below : List ℕ → List ℕ → Bool
is_below host domain =
    nat_lt (length domain + 1) (length host)
    && begins_with_period (drop (length host - length domain - 1) host)
    && same_text (drop (length host - length domain) host) domain

-- the hosts of a domain where the base begins with a period, and one host else
abbrev pub host_within : List ℕ → List ℕ → Bool
host_within host base = cond (begins_with_period base) (is_below host (without_period base)) (same_text host base)

-- ---- DNS names: no label added on the left, or some. Each is within the empty base; a base that begins with a period, which isn't
-- foreseen, takes one label or more

abbrev pub is_dns_base : List ℕ → Bool
is_dns_base base = is_empty base || is_host_base base

abbrev pub dns_within : List ℕ → List ℕ → Bool
dns_within name base = is_empty base || host_within name base || is_below name (without_period base)

-- ---- electronic mail addresses (RFC 2821, 4.1.2): what comes before the last @, and the host after it

abbrev pub is_at : ℕ → Bool
is_at c = c == 64

abbrev pub local_part : List ℕ → List ℕ
local_part address = before_last is_at address

abbrev pub host_part : List ℕ → List ℕ
host_part address = after_last is_at address

abbrev pub is_mailbox : List ℕ → Bool
is_mailbox address = list_any is_at address && not (is_empty (local_part address)) && is_host (host_part address)

-- a mailbox, a host or the hosts of a domain
abbrev pub is_mail_base : List ℕ → Bool
is_mail_base base = is_mailbox base || is_host_base base

-- the local part exactly, and the host without case (7.5)
abbrev pub same_mailbox : List ℕ → List ℕ → Bool
same_mailbox a b = bytes_eq (local_part a) (local_part b) && same_text (host_part a) (host_part b)

abbrev pub mail_within : List ℕ → List ℕ → Bool
mail_within address base = cond (list_any is_at base) (same_mailbox address base) (host_within (host_part address) base)

-- ---- URIs (RFC 3986, 3): the host of the authority

abbrev pub is_colon : ℕ → Bool
is_colon c = c == 58

abbrev pub is_scheme_character : ℕ → Bool
is_scheme_character c = is_ascii_alphanumeric c || (c == 43) || (c == 45) || (c == 46)

-- 3.1
abbrev pub is_scheme : List ℕ → Bool
is_scheme [] = false
is_scheme (c ∷ cs) = is_ascii_alphabetic c && list_all is_scheme_character cs

-- / ? #
abbrev pub ends_authority : ℕ → Bool
ends_authority c = (c == 47) || (c == 63) || (c == 35)

-- from the first colon on
abbrev pub from_colon : List ℕ → List ℕ
from_colon text = drop (length (before_first is_colon text)) text

-- after a scheme and :// (3.2)
abbrev pub authority_of : List ℕ → Option (List ℕ)
authority_of uri =
    cond (is_scheme (before_first is_colon uri) && starts_with nat_eq (from_colon uri) (58 ∷ 47 ∷ 47 ∷ []))
    (Some (before_first ends_authority (drop 3 (from_colon uri)))) None

-- without the user before the last @, and the port after a colon (3.2.1 to 3.2.3)
abbrev pub host_of : List ℕ → List ℕ
host_of authority = before_first is_colon (after_last is_at authority)

-- unreserved, sub-delims, the colon, and the percent sign of an octet that is encoded (3.2.1)
abbrev pub user_marks : List (ℕ × ℕ)
user_marks = (33, 33) ∷ (36, 46) ∷ (58, 59) ∷ (61, 61) ∷ (95, 95) ∷ (126, 126) ∷ []

abbrev pub is_user_character : ℕ → Bool
is_user_character c = is_ascii_alphanumeric c || is_in user_marks c

abbrev pub is_percent : ℕ → Bool
is_percent c = c == 37

abbrev pub begins_with_two_digits : List ℕ → Bool
begins_with_two_digits [] = false
begins_with_two_digits (a ∷ []) = false
begins_with_two_digits (a ∷ b ∷ cs) = is_ascii_hexdigit a && is_ascii_hexdigit b

-- from the first percent sign on: two hexadecimal digits come after each (2.1)
abbrev pub are_triplets : List ℕ → Bool
are_triplets [] = true
are_triplets (c ∷ text) = list_all begins_with_two_digits (slice_split is_percent text)

-- what comes before the last @ (3.2.1)
abbrev pub is_user_info : List ℕ → Bool
is_user_info text = list_all is_user_character text && are_triplets (drop (length (before_first is_percent text)) text)

-- nothing, or a colon and digits, or none (3.2.3)
abbrev pub is_port : List ℕ → Bool
is_port [] = true
is_port (c ∷ digits) = list_all is_ascii_digit digits

-- there is nothing around the host that 3.2 doesn't allow there, so that no other reader finds another host
abbrev pub is_regular : List ℕ → Bool
is_regular authority = is_user_info (before_last is_at authority) && is_port (from_colon (after_last is_at authority))

abbrev pub is_digit_or_period : ℕ → Bool
is_digit_or_period c = is_ascii_digit c || is_period c

-- a fully qualified name: two labels or more, and no address of IP (4.2.1.10)
abbrev pub is_full_name : List ℕ → Bool
is_full_name host = is_host host && list_any is_period host && not (list_all is_digit_or_period host)

-- the fully qualified name of the host, where it has one
abbrev pub full_host : List ℕ → Option (List ℕ)
full_host authority = cond (is_regular authority && is_full_name (host_of authority)) (Some (host_of authority)) None

abbrev pub uri_host : List ℕ → Option (List ℕ)
uri_host uri = authority_of uri >>= full_host

abbrev pub is_host_within : Option (List ℕ) → List ℕ → Bool
is_host_within None base = false
is_host_within (Some host) base = host_within host base

abbrev pub uri_within : List ℕ → List ℕ → Bool
uri_within uri base = is_host_within (uri_host uri) base
