-- The revocation lists of a question, and the certificates of their issuers.
use Rattle.std.specs.Prelude.{ℕ, suc, ◌&&◌, ◌++◌, Bool, true, false, cond, List, [], ◌∷◌, length, take, drop, min, max, nat_lt, codes, Option, None, Result, Ok}
use Rattle.std.specs.List.{position_or_len}
use Rattle.std.specs.Str.{bytes_eq}
use Rattle.der_tree.specs.Form.{value_of}
use Rattle.pem.specs.Encoding.{Encoding}
use Rattle.pkix_cert.specs.Revocations.{certificate_list}
use Rattle.pkix_cert.specs.declared.revocation.CertificateList.{CertificateList}
use Rattle.pkix_cert.specs.Views.{CertificateParts}
use Rattle.shelf_fault.specs.Faults.{and_then, some_or}
use Rattle.shelf_fault.specs.declared.fault.Fault.{Fault}
use Rattle.shelf_fault.specs.declared.fault.Fault.TheVariants.{NotCertificate, NotList}
use Rattle.shelf_path.specs.Certificates.{whole_certificate}
use Rattle.shelf_path.specs.ListIssuers.{most_issuers}
use Rattle.shelf_path.specs.declared.revocation_lists.RevocationBlocks.{RevocationBlocks}

-- a block is a list's by its label (RFC 7468, 6)
abbrev pub is_list : Encoding → Bool
is_list e = bytes_eq e.label (codes "X509 CRL")

-- how many blocks are the certificates': all, or where revocation is asked those before the first list; the first block in any case
unfoldable pub certificate_count : Bool → List Encoding → ℕ
certificate_count false blocks = length blocks
certificate_count true blocks = min (max (position_or_len is_list blocks) 1) (length blocks)

-- those blocks, and the ones after them
abbrev pub certificate_blocks : Bool → List Encoding → List Encoding
certificate_blocks asked blocks = take (certificate_count asked blocks) blocks

abbrev pub list_blocks : Bool → List Encoding → List Encoding
list_blocks asked blocks = drop (certificate_count asked blocks) blocks

-- the list of a block by its label, whose DER its octets are (RFC 5280, 5.1)
abbrev pub labelled_list : Encoding → Option CertificateList
labelled_list e = cond (is_list e) (value_of certificate_list e.octets) None

-- the same of the block of this number, from 1
unfoldable pub list_in : ℕ → Encoding → Result CertificateList Fault
list_in number e = some_or (labelled_list e) (NotList number)

-- ---- what comes after the path

-- the lists, and the certificates of their issuers
pub record RevocationData : Type 0 where
  pub lists : List CertificateList
  pub issuers : List CertificateParts

-- as they are read
abbrev pub data_of : RevocationBlocks → RevocationData
data_of b = record { lists = b.lists.items; issuers = b.issuers.items }

-- with one more of them
abbrev pub with_certificate : RevocationData → CertificateParts → RevocationData
with_certificate b k = record { lists = b.lists; issuers = b.issuers ++ k ∷ [] }

abbrev pub with_list : RevocationData → CertificateList → RevocationData
with_list b l = record { lists = b.lists ++ l ∷ []; issuers = b.issuers }

-- a block is the certificate of an issuer of lists by a label of its own: so no list before the anchor's certificate makes another certificate the anchor
abbrev pub is_issuer : Encoding → Bool
is_issuer e = bytes_eq e.label (codes "CRL ISSUER CERTIFICATE")

-- the certificate of the block of this number
unfoldable pub issuer_in : ℕ → Encoding → Result CertificateParts Fault
issuer_in number e = some_or (whole_certificate e.octets) (NotCertificate number)

-- with the block of this number: a certificate of an issuer, up to a number of them, or else a list
unfoldable pub with_block : ℕ → Encoding → RevocationData → Result RevocationData Fault
with_block number e b =
    cond (is_issuer e && nat_lt (length b.issuers) most_issuers) (and_then (issuer_in number e) (λ k. Ok (with_certificate b k)))
    (and_then (list_in number e) (λ l. Ok (with_list b l)))

-- with blocks in their order, after so many others
abbrev pub lists_behind : ℕ → RevocationData → List Encoding → Result RevocationData Fault
lists_behind count b [] = Ok b
lists_behind count b (e ∷ es) = and_then (with_block (suc count) e b) (λ next. lists_behind (suc count) next es)

abbrev pub no_data : RevocationData
no_data = record { lists = []; issuers = [] }
