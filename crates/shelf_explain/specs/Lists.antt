-- The lines of a certificate revocation list (RFC 5280, 5.1).
use Rattle.std.specs.Prelude.{ℕ, List, ◌++◌, codes, decimal, flat_map, length}
use Rattle.pkix_cert.specs.declared.revocation.CertificateList.{CertificateList}
use Rattle.pkix_cert.specs.declared.revocation.RevokedCertificate.{RevokedCertificate}
use Rattle.pkix_cert.specs.declared.revocation.TbsCertList.{TbsCertList}
use Rattle.shelf_explain.specs.Blocks.{algorithm_line, inner_algorithm, line_of, serial_line, signature_lines, time_text, titled_extensions, version_text}
use Rattle.shelf_explain.specs.ExtensionTexts.{extension_lines}
use Rattle.shelf_explain.specs.Lines.{line}
use Rattle.shelf_explain.specs.Names.{name_text}

unfoldable pub entry_lines : RevokedCertificate → List ℕ
entry_lines e =
    serial_line (codes "    ") e.user_certificate
    ++ line (codes "      ") (codes "revoked") (time_text e.revocation_date)
    ++ extension_lines (codes "      ") e.crl_entry_extensions

unfoldable pub all_entries : List RevokedCertificate → List ℕ
all_entries entries = flat_map entry_lines entries

-- how many there are, and each
unfoldable pub entries_lines : List RevokedCertificate → List ℕ
entries_lines entries = line (codes "  ") (codes "revoked certificates") (decimal (length entries)) ++ all_entries entries

-- who, and when
unfoldable pub times_lines : TbsCertList → List ℕ
times_lines list =
    line (codes "  ") (codes "issuer") (name_text list.issuer)
    ++ line (codes "  ") (codes "this update") (time_text list.this_update)
    ++ line_of (codes "next update") time_text list.next_update
    ++ line_of (codes "version") version_text list.version

unfoldable pub tbs_list_lines : TbsCertList → List ℕ
tbs_list_lines list = times_lines list ++ titled_extensions list.crl_extensions ++ entries_lines list.revoked_certificates

unfoldable pub list_lines : CertificateList → List ℕ
list_lines l =
    tbs_list_lines l.tbs_cert_list ++ inner_algorithm l.tbs_cert_list.signature l.signature_algorithm
    ++ signature_lines l.signature_algorithm l.signature

-- of what is to be signed, alone
unfoldable pub unsigned_list_lines : TbsCertList → List ℕ
unsigned_list_lines list = tbs_list_lines list ++ algorithm_line list.signature
