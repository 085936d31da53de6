-- Lines on what is wrong with blocks.
use Rattle.std.specs.Prelude.{List, codes, cond, decimal, map, nat_le, nat_lt, ℕ, ◌&&◌, ◌++◌}
use Rattle.std.specs.List.{flat_map}
use Rattle.rule_texts.specs.Lines.{severity}
use Rattle.rule_texts.specs.Texts.{text}
use Rattle.lint_files.specs.Findings.{is_error}
use Rattle.lint_files.specs.Locations.{LocatedView}
use Rattle.lint_files.specs.declared.finding.Finding.{Finding}
use Rattle.lint_files.specs.declared.finding.Finding.TheVariants.{AlgorithmsDiffer, Broken, LargeCertificate, NotAttributeCertificate, NotCertificate, NotList, NotPublicKey, NotRequest, OtherLabel}

abbrev pub finding_text : Finding → List ℕ
finding_text (Broken r) = text r
finding_text OtherLabel = codes "not a certificate, request, CRL, attribute certificate or public key (RFC 7468, 5 to 7, 12, 13) [unknown_block]"
finding_text NotCertificate = codes "not a certificate (RFC 5280, 4.1) [not_certificate]"
finding_text NotRequest = codes "not a request (RFC 2986, 4) [not_request]"
finding_text NotList = codes "not a CRL (RFC 5280, 5.1) [not_crl]"
finding_text NotAttributeCertificate = codes "not an attribute certificate (RFC 5755, 4.1) [not_attribute_certificate]"
finding_text NotPublicKey = codes "not a public key (RFC 5280, 4.1.2.7) [not_public_key]"
finding_text AlgorithmsDiffer =
    codes "signature: the algorithm beside the signed bytes isn't the one within them (RFC 5280, 4.1.1.2, 5.1.1.2) [algorithms_differ]"
finding_text LargeCertificate = codes "more than 64 KiB, so not looked at as an issuer's certificate [large_certificate]"

-- the octet of a label, or ? in the place of one that isn't a printable character of ASCII
abbrev pub shown_character : ℕ → ℕ
shown_character octet = cond (nat_le 32 octet && nat_lt octet 127) octet 63

-- which block it is
unfoldable pub shown_place : ℕ → List ℕ → List ℕ
shown_place number label = codes "block " ++ (decimal number ++ (codes " (" ++ (map shown_character label ++ codes "): ")))

unfoldable pub finding_line : LocatedView → List ℕ
finding_line l = shown_place l.number l.label ++ (severity (is_error l.finding) ++ (finding_text l.finding ++ codes "\n"))

-- a line on each
abbrev pub finding_lines : List LocatedView → List ℕ
finding_lines found = flat_map finding_line found
