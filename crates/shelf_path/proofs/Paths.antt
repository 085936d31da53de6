-- Certificates in order, read again.
use Rattle.std.proofs.Common.{◌≡◌, ◌∙◌, ◌<◌, ◌+◌, ℕ, List, [], ◌∷◌, ◌++◌, drop, get_or, length, Option, Some, None, ap, append_assoc, refl, sym}
use Rattle.std.proofs.lemmas.List.{drop_more}
use Rattle.std.specs.Option.{option_map}
use Rattle.asn1_core.specs.Binds.{◌>>=◌}
use Rattle.pkix_cert.specs.Views.{CertificateParts, certificate_parts}
use Rattle.shelf_path.specs.ListIssuers.{again}

-- these, and then the others
abbrev pub in_front : List CertificateParts → Option (List CertificateParts) → Option (List CertificateParts)
in_front ps o = option_map (λ qs. ps ++ qs) o

-- the certificates from here on, of which the first is this one
abbrev pub again_from : Option CertificateParts → List CertificateParts → Option (List CertificateParts)
again_from o ps = o >>= λ q. again ps >>= λ qs. Some (q ∷ qs)

grouped : (done new : List CertificateParts) (q : CertificateParts) (o : Option (List CertificateParts)) → new ≡ done ++ q ∷ []
    → in_front new o ≡ in_front done (o >>= λ qs. Some (q ∷ qs))
grouped done new q None e = refl
grouped done new q (Some qs) e =
    ap (λ (xs : List CertificateParts). Some xs) (ap (λ (ys : List CertificateParts). ys ++ qs) e ∙ append_assoc done (q ∷ []) qs)

here : (ps : List CertificateParts) (index : ℕ) (p : CertificateParts) (o : Option CertificateParts) → index < length ps → p ≡ get_or ps index p
    → o ≡ certificate_parts p.whole → again (drop index ps) ≡ again_from o (drop (index + 1) ps)
here ps index p o bound is seen =
    ap again (drop_more ps index p bound) ∙ ap (λ (x : CertificateParts). again_from (certificate_parts x.whole) (drop (index + 1) ps)) (sym is)
    ∙ ap (λ (x : Option CertificateParts). again_from x (drop (index + 1) ps)) (sym seen)

-- one more
pub one_more : (done new ps : List CertificateParts) (index : ℕ) (p q : CertificateParts) (whole : Option (List CertificateParts)) → index < length ps
    → p ≡ get_or ps index p → Some q ≡ certificate_parts p.whole → new ≡ done ++ q ∷ [] → in_front done (again (drop index ps)) ≡ whole
    → in_front new (again (drop (index + 1) ps)) ≡ whole
one_more done new ps index p q whole bound is seen pushed inv =
    grouped done new q (again (drop (index + 1) ps)) pushed ∙ ap (in_front done) (sym (here ps index p (Some q) bound is seen)) ∙ inv

-- one that isn't there ends it
pub no_more : (done ps : List CertificateParts) (index : ℕ) (p : CertificateParts) (whole : Option (List CertificateParts)) → index < length ps
    → p ≡ get_or ps index p → None ≡ certificate_parts p.whole → in_front done (again (drop index ps)) ≡ whole → None ≡ whole
no_more done ps index p whole bound is seen inv = sym (ap (in_front done) (here ps index p None bound is seen)) ∙ inv
