-- What may be wrong with a domain name, as a dNSName holds it (RFC 5280, 4.2.1.6), in the preferred syntax of RFC 1034, 3.5.
use Rattle.std.specs.Prelude.{Bool, List, [], cond, drop, false, length, nat_eq, nat_lt, not, true, ℕ, ◌&&◌, ◌==◌, ◌||◌, ◌∷◌}
use Rattle.std.specs.Char.{is_ascii_alphanumeric}
use Rattle.std.specs.List.{ends_with, list_any, slice_split, starts_with}
use Rattle.host_name.specs.Hosts.{ends_in_number, hyphen, is_dot, is_host, is_mailbox, wildcard, without_wildcard}
use Rattle.name_rules.specs.declared.host.HostFault.{HostFault}
use Rattle.name_rules.specs.declared.host.HostFault.TheVariants.{Address, Character, EmptyLabel, Hyphen, LongLabel, LongName, TopWildcard, Underscore, Wildcard}

-- a letter, a digit, a hyphen, an underscore, a dot, or the asterisk of a wildcard
abbrev pub is_host_character : ℕ → Bool
is_host_character c = is_ascii_alphanumeric c || (c == 45) || (c == 95) || (c == 46) || (c == 42)

abbrev pub is_odd_character : ℕ → Bool
is_odd_character c = not (is_host_character c)

abbrev pub is_underscore : ℕ → Bool
is_underscore c = c == 95

abbrev pub is_asterisk : ℕ → Bool
is_asterisk c = c == 42

abbrev pub dot : List ℕ
dot = 46 ∷ []

-- `*.` before one label
abbrev pub is_top_wildcard : List ℕ → Bool
is_top_wildcard text = starts_with nat_eq text wildcard && not (list_any is_dot (without_wildcard text))

-- the last label is a number
abbrev pub is_numbered : List ℕ → Bool
is_numbered text = nat_lt 0 (length text) && not (ends_with nat_eq text dot) && ends_in_number true text

-- of one label
abbrev pub has_label_fault : HostFault → List ℕ → Bool
has_label_fault EmptyLabel label = length label == 0
has_label_fault Hyphen label = starts_with nat_eq label hyphen || ends_with nat_eq label hyphen
has_label_fault LongLabel label = nat_lt 63 (length label)
has_label_fault Character label = false
has_label_fault Underscore label = false
has_label_fault LongName label = false
has_label_fault Wildcard label = false
has_label_fault TopWildcard label = false
has_label_fault Address label = false

unfoldable pub has_host_fault : HostFault → List ℕ → Bool
has_host_fault EmptyLabel text = list_any (has_label_fault EmptyLabel) (slice_split is_dot text)
has_host_fault Hyphen text = list_any (has_label_fault Hyphen) (slice_split is_dot text)
has_host_fault LongLabel text = list_any (has_label_fault LongLabel) (slice_split is_dot text)
has_host_fault Character text = list_any is_odd_character text
has_host_fault Underscore text = list_any is_underscore text
has_host_fault LongName text = nat_lt 253 (length text)
has_host_fault Wildcard text = list_any is_asterisk (without_wildcard text)
has_host_fault TopWildcard text = is_top_wildcard text
has_host_fault Address text = is_numbered text

-- ---- subtrees of mailboxes (RFC 5280, 4.2.1.10): a mailbox, a host, or the hosts below one

abbrev pub without_dot : List ℕ → List ℕ
without_dot [] = []
without_dot (c ∷ cs) = cond (is_dot c) cs (c ∷ cs)

unfoldable pub is_mail_base : List ℕ → Bool
is_mail_base text = is_mailbox text || is_host (without_dot text)
