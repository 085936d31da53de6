-- Names of hosts, mailboxes and URIs, as a certificate holds them (RFC 5280, 4.2.1.6). Hosts: the preferred syntax of RFC 1034, 3.5, as RFC 1123, 2.1 changed it.
use Rattle.std.specs.Prelude.{ℕ, ◌+◌, Bool, false, true, ◌&&◌, ◌||◌, ◌==◌, not, cond, drop, length, nat_eq, nat_le, nat_lt, take, List, [], ◌∷◌}
use Rattle.std.specs.Char.{is_ascii_alphabetic, is_ascii_alphanumeric, is_ascii_digit}
use Rattle.std.specs.List.{ends_with, list_all, list_any, position_or_len, slice_split, starts_with}

abbrev pub is_dot : ℕ → Bool
is_dot c = c == 46

abbrev pub hyphen : List ℕ
hyphen = 45 ∷ []

-- letters, digits and hyphens; underscores too, which the syntax doesn't have and the names of some hosts do
abbrev pub is_label_character : ℕ → Bool
is_label_character c = is_ascii_alphanumeric c || (c == 45) || (c == 95)

-- 1 to 63 of them, of which neither the first nor the last is a hyphen
abbrev pub is_label : List ℕ → Bool
is_label l =
    nat_lt 0 (length l) && nat_le (length l) 63 && list_all is_label_character l
    && not (starts_with nat_eq l hyphen) && not (ends_with nat_eq l hyphen)

-- the last label is a number, as in an address (RFC 1123, 2.1: the highest label of a host's name isn't one); of the first label all that was read
-- were digits, or not
abbrev pub ends_in_number : Bool → List ℕ → Bool
ends_in_number digits [] = digits
ends_in_number digits (c ∷ rest) = cond (is_dot c) (ends_in_number true rest) (ends_in_number (digits && is_ascii_digit c) rest)

-- labels with a dot between two
abbrev pub is_name : List ℕ → Bool
is_name text = list_all is_label (slice_split is_dot text) && not (ends_in_number true text)

-- `*.` before a name means the hosts one label below it (RFC 9525, 6.3)
abbrev pub wildcard : List ℕ
wildcard = 42 ∷ 46 ∷ []

abbrev pub without_wildcard : List ℕ → List ℕ
without_wildcard text = cond (starts_with nat_eq text wildcard) (drop 2 text) text

-- a host may have the name, or the hosts below one: at most 253 octets (RFC 1034, 3.1, where the root has one of 255, and the first label a length)
unfoldable pub is_host : List ℕ → Bool
is_host text = nat_le (length text) 253 && is_name (without_wildcard text)

-- ---- mailboxes (RFC 5280, 4.2.1.6; RFC 5321, 4.1.2)

abbrev pub is_at : ℕ → Bool
is_at c = c == 64

-- beside letters and digits: ! # $ % & ' * + - / = ? ^ _ ` { | } ~ (RFC 5322, 3.2.3), and the dot between two atoms
abbrev pub atom_signs : List ℕ
atom_signs =
    33 ∷ 35 ∷ 36 ∷ 37 ∷ 38 ∷ 39 ∷ 42 ∷ 43 ∷ 45 ∷ 46 ∷ 47 ∷ 61 ∷ 63 ∷ 94 ∷ 95 ∷ 96 ∷ 123 ∷ 124 ∷ 125 ∷ 126 ∷ []

abbrev pub is_local_character : ℕ → Bool
is_local_character c = is_ascii_alphanumeric c || list_any (nat_eq c) atom_signs

-- 1 to 64 of them (RFC 5321, 4.5.3.1.1), not in quotes
abbrev pub is_local_part : List ℕ → Bool
is_local_part l = nat_lt 0 (length l) && nat_le (length l) 64 && list_all is_local_character l

-- a local part, an @ and the name of a host
unfoldable pub is_mailbox : List ℕ → Bool
is_mailbox text =
    nat_lt (position_or_len is_at text) (length text) && is_local_part (take (position_or_len is_at text) text)
    && is_name (drop (position_or_len is_at text + 1) text)

-- ---- URIs (RFC 5280, 4.2.1.6: not relative)

abbrev pub is_colon : ℕ → Bool
is_colon c = c == 58

abbrev pub is_scheme_character : ℕ → Bool
is_scheme_character c = is_ascii_alphanumeric c || (c == 43) || (c == 45) || (c == 46)

-- RFC 3986, 3.1
abbrev pub is_scheme : List ℕ → Bool
is_scheme [] = false
is_scheme (c ∷ cs) = is_ascii_alphabetic c && list_all is_scheme_character cs

-- a scheme, a colon and something after it
unfoldable pub is_absolute : List ℕ → Bool
is_absolute text = nat_lt (position_or_len is_colon text + 1) (length text) && is_scheme (take (position_or_len is_colon text) text)
