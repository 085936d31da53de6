-- What may be wrong with a URI (RFC 3986; RFC 5280, 4.2.1.6).
use Rattle.std.specs.Prelude.{Bool, List, [], codes, drop, map, nat_eq, nat_le, not, take, true, ℕ, ◌&&◌, ◌==◌, ◌||◌, ◌∷◌}
use Rattle.std.specs.Char.{to_ascii_lowercase}
use Rattle.std.specs.List.{list_any, position_or_len, starts_with}
use Rattle.std.specs.Str.{bytes_eq}
use Rattle.host_name.specs.Hosts.{is_absolute, is_colon}
use Rattle.name_rules.specs.declared.uri.UriFault.{UriFault}
use Rattle.name_rules.specs.declared.uri.UriFault.TheVariants.{Character, NoHost, NoServer, Relative}

-- a blank, a control character or one outside of ASCII
abbrev pub is_no_uri_character : ℕ → Bool
is_no_uri_character c = nat_le c 32 || nat_le 127 c

-- from the first colon on
abbrev pub after_scheme : List ℕ → List ℕ
after_scheme text = drop (position_or_len is_colon text) text

-- the path, the query, the fragment or the port comes next
abbrev pub ends_host : ℕ → Bool
ends_host c = (c == 47) || (c == 63) || (c == 35) || (c == 58)

abbrev pub starts_empty : List ℕ → Bool
starts_empty [] = true
starts_empty (c ∷ cs) = ends_host c

-- an authority, after ://, without a host (RFC 3986, 3.2)
abbrev pub lacks_host : List ℕ → Bool
lacks_host text = starts_with nat_eq (after_scheme text) (58 ∷ 47 ∷ 47 ∷ []) && starts_empty (drop 3 (after_scheme text))

abbrev pub scheme : List ℕ → List ℕ
scheme text = take (position_or_len is_colon text) text

-- without the case of ASCII (RFC 3986, 3.1)
abbrev pub same_scheme : List ℕ → List ℕ → Bool
same_scheme a b = bytes_eq (map to_ascii_lowercase a) (map to_ascii_lowercase b)

-- clients may know the server of a URI of LDAP by themselves (RFC 5280, 4.2.1.13), and a file may have none (RFC 8089, 2)
abbrev pub may_lack_host : List ℕ → Bool
may_lack_host s = same_scheme s (codes "ldap") || same_scheme s (codes "ldaps") || same_scheme s (codes "file")

abbrev pub lacks_server : List ℕ → Bool
lacks_server text = lacks_host text && not (may_lack_host (scheme text))

unfoldable pub has_uri_fault : UriFault → List ℕ → Bool
has_uri_fault Character text = list_any is_no_uri_character text
has_uri_fault Relative text = not (is_absolute text)
has_uri_fault NoHost text = lacks_host text
has_uri_fault NoServer text = lacks_server text
