-- Digests of octets.
use Rattle.std.specs.Prelude.{ℕ, List, codes}
use Rattle.sha2.specs.Sha256.{sha256}
use Rattle.shelf_explain.specs.Lines.{hex_text, line}

-- the SHA-256 digest of the octets
unfoldable pub fingerprint_line : List ℕ → List ℕ
fingerprint_line octets = line (codes "  ") (codes "SHA-256") (hex_text (sha256 octets))
