-- The lines of a block.
use Rattle.std.specs.Prelude.{ℕ, cond, length, List, [], ◌++◌, ◌==◌, codes, decimal, Option, Some, None}
use Rattle.asn1_core.specs.Bits.{Bits}
use Rattle.der_tree.specs.Codec.{Codec}
use Rattle.der_tree.specs.Form.{value_of}
use Rattle.pkix_cert.specs.Versions.{raw_value}
use Rattle.pkix_cert.specs.declared.algorithm.AlgorithmIdentifier.{AlgorithmIdentifier}
use Rattle.pkix_cert.specs.declared.certificate.Certificate.{Certificate}
use Rattle.pkix_cert.specs.declared.certificate.TbsCertificate.{TbsCertificate}
use Rattle.pkix_cert.specs.declared.certificate.Version.{Version}
use Rattle.pkix_cert.specs.declared.extension.Extensions.{Extensions}
use Rattle.pkix_cert.specs.declared.time.Time.{Time}
use Rattle.pkix_cert.specs.declared.time.Time.TheVariants.{Utc, General}
use Rattle.shelf_explain.specs.BitNames.{bits_text}
use Rattle.shelf_explain.specs.ExtensionTexts.{all_extensions}
use Rattle.shelf_explain.specs.Keys.{algorithm_text, full_algorithm_text, key_lines, same_algorithm}
use Rattle.shelf_explain.specs.Lines.{hex_text, labelled, line}
use Rattle.shelf_explain.specs.Names.{name_text}
use Rattle.shelf_explain.specs.Numbers.{serial_text}
use Rattle.shelf_explain.specs.Times.{moment_text}

-- ---- values

unfoldable pub time_text : Time → List ℕ
time_text (Utc time) = moment_text (record { at = time.at })
time_text (General time) = moment_text time

-- the number of a version is one less than its name (RFC 5280, 4.1.2.1)
unfoldable pub version_text : Version → List ℕ
version_text v =
    cond (raw_value v == 0) (codes "1")
    (cond (raw_value v == 1) (codes "2")
    (cond (raw_value v == 2) (codes "3") (labelled (codes "number ") (decimal (raw_value v)))))

-- ---- lines

unfoldable pub line_of : {A : Type 0} → List ℕ → (A → List ℕ) → Option A → List ℕ
line_of key text None = []
line_of key text (Some x) = line (codes "  ") key (text x)

unfoldable pub serial_line : List ℕ → List ℕ → List ℕ
serial_line indent serial = line indent (codes "serial") (serial_text serial)

unfoldable pub titled_extensions : Option Extensions → List ℕ
titled_extensions None = []
titled_extensions (Some es) = labelled (codes "  extensions:\n") (all_extensions (codes "    ") es.0)

-- the algorithm of what is to be signed (RFC 5280, 4.1.2.3)
unfoldable pub algorithm_line : AlgorithmIdentifier → List ℕ
algorithm_line algorithm = line (codes "  ") (codes "signature algorithm") (algorithm_text algorithm)

-- the algorithm in what is signed, where it isn't the one of the signature, which it has to be (RFC 5280, 4.1.1.2)
unfoldable pub inner_algorithm : AlgorithmIdentifier → AlgorithmIdentifier → List ℕ
inner_algorithm inner outer = cond (same_algorithm inner outer) [] (line (codes "  ") (codes "signed algorithm") (full_algorithm_text inner))

unfoldable pub signature_lines : AlgorithmIdentifier → Bits → List ℕ
signature_lines algorithm signature =
    line (codes "  ") (codes "signature algorithm") (algorithm_text algorithm) ++ line (codes "  ") (codes "signature") (bits_text signature)

unfoldable pub unreadable_line : List ℕ → List ℕ → List ℕ
unreadable_line indent octets = line indent (codes "unreadable") (hex_text octets)

-- how many octets of a block can't be read: under a wrong label they may be a secret
unfoldable pub unread_octets : List ℕ → List ℕ
unread_octets octets = line (codes "  ") (codes "unreadable, octets") (decimal (length octets))

-- how many octets there are in a block of another kind
unfoldable pub not_explained : List ℕ → List ℕ
not_explained octets = line (codes "  ") (codes "not explained, octets") (decimal (length octets))

unfoldable pub lines_or_unreadable : {A : Type 0} → (A → List ℕ) → Option A → List ℕ → List ℕ
lines_or_unreadable lines None octets = unread_octets octets
lines_or_unreadable lines (Some value) octets = lines value

-- of the value whose DER encoding the octets are
unfoldable pub read_lines : {A : Type 0} → Codec A → (A → List ℕ) → List ℕ → List ℕ
read_lines c lines octets = lines_or_unreadable lines (value_of c octets) octets

-- ---- certificates

-- who, and when
unfoldable pub names_and_times : TbsCertificate → List ℕ
names_and_times tbs =
    line (codes "  ") (codes "subject") (name_text tbs.subject)
    ++ line (codes "  ") (codes "issuer") (name_text tbs.issuer)
    ++ serial_line (codes "  ") tbs.serial_number
    ++ line (codes "  ") (codes "not before") (time_text tbs.validity.not_before)
    ++ line (codes "  ") (codes "not after") (time_text tbs.validity.not_after)

unfoldable pub tbs_lines : TbsCertificate → List ℕ
tbs_lines tbs =
    names_and_times tbs
    ++ key_lines tbs.subject_public_key_info
    ++ line (codes "  ") (codes "version") (version_text tbs.version)
    ++ line_of (codes "issuer unique id") bits_text tbs.issuer_unique_id
    ++ line_of (codes "subject unique id") bits_text tbs.subject_unique_id
    ++ titled_extensions tbs.extensions

unfoldable pub certificate_lines : Certificate → List ℕ
certificate_lines c =
    tbs_lines c.tbs_certificate ++ inner_algorithm c.tbs_certificate.signature c.signature_algorithm
    ++ signature_lines c.signature_algorithm c.signature_value

-- of what is to be signed, alone
unfoldable pub unsigned_lines : TbsCertificate → List ℕ
unsigned_lines tbs = tbs_lines tbs ++ algorithm_line tbs.signature
