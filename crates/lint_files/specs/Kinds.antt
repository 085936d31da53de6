-- What a block is, by its label.
use Rattle.std.specs.Prelude.{List, codes, cond, nat_eq, ℕ}
use Rattle.std.specs.Cmp.Lexicographic.{pointwise}
use Rattle.lint_files.specs.declared.kind.Kind.{Kind}
use Rattle.lint_files.specs.declared.kind.Kind.TheVariants as kind

-- by the label (RFC 7468, 5 to 7, 12 and 13; 7 lets NEW CERTIFICATE REQUEST be taken as CERTIFICATE REQUEST); CRL ISSUER CERTIFICATE is that
-- of the certificates of other issuers of CRLs
unfoldable pub kind_of : List ℕ → Kind
kind_of label =
    cond (pointwise nat_eq label (codes "CERTIFICATE")) kind.Certificate
    (cond (pointwise nat_eq label (codes "CRL ISSUER CERTIFICATE")) kind.Certificate
    (cond (pointwise nat_eq label (codes "CERTIFICATE REQUEST")) kind.Request
    (cond (pointwise nat_eq label (codes "NEW CERTIFICATE REQUEST")) kind.Request
    (cond (pointwise nat_eq label (codes "X509 CRL")) kind.List
    (cond (pointwise nat_eq label (codes "ATTRIBUTE CERTIFICATE")) kind.AttributeCertificate
    (cond (pointwise nat_eq label (codes "PUBLIC KEY")) kind.PublicKey kind.Other))))))
