-- Where the lines of a certificate are in its explanation.
use Rattle.std.proofs.Common.{◌≡◌, ℕ, List, ◌++◌, codes, Option, Some, ap}
use Rattle.der_tree.specs.Form.{value_of}
use Rattle.pkix_cert.specs.Certificates.{certificate}
use Rattle.pkix_cert.specs.declared.certificate.Certificate.{Certificate}
use Rattle.shelf_explain.specs.Blocks.{certificate_lines}
use Rattle.shelf_explain.specs.Digests.{fingerprint_line}
use Rattle.shelf_explain.specs.Explanation.{block_lines, block_of, fingerprint_of, known_lines, long_explanation, title_line}
use Rattle.shelf_explain.specs.Partly.{lines_or_rows, read_or_rows}
use Rattle.shelf_explain.specs.Tables.{certificate_fields}

pub explained : (c : Certificate) (octets : List ℕ) → value_of certificate octets ≡ Some c
    → long_explanation (codes "CERTIFICATE") octets ≡ title_line (codes "CERTIFICATE") ++ (certificate_lines c ++ fingerprint_line octets)
unfolding long_explanation block_lines block_of known_lines fingerprint_of read_or_rows lines_or_rows
explained c octets e =
    ap (λ (o : Option Certificate). title_line (codes "CERTIFICATE") ++ (lines_or_rows certificate_lines certificate_fields o octets ++ fingerprint_line octets)) e
