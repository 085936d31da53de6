-- Statuses along a path, one after another.
use Rattle.std.proofs.Common.{◌≡◌, ◌∙◌, ◌<◌, ◌+◌, ℕ, List, [], ◌∷◌, ◌++◌, drop, take, get_or, length, Option, Some, ap, sym}
use Rattle.std.proofs.lemmas.List.{drop_more, take_more}
use Rattle.path_validation.specs.declared.error.PathReason.{PathReason}
use Rattle.path_validation.specs.declared.inputs.PathInputs.{PathInputs}
use Rattle.pkix_cert.specs.Views.{CertificateParts}
use Rattle.pkix_cert.specs.declared.revocation.CertificateList.{CertificateList}
use Rattle.shelf_path.specs.Revocations.{bad_or, first_bad_from, passed}
use Rattle.shelf_path.specs.declared.list_issuer.KnownIssuers.{KnownIssuers}
use Rattle.shelf_path.specs.declared.revocation.BadStatus.{BadStatus}
use Rattle.shelf_path.specs.declared.revocation.Advance.{Advance}
use Rattle.shelf_path.specs.declared.revocation.Advance.TheVariants.{Goes, Stops}

module _ (x : PathInputs) (ls : List CertificateList) (ks : List CertificateParts) where
  -- the rest of the path, by what comes of the certificate here
  abbrev then_below : ℕ → List CertificateParts → CertificateParts → List CertificateParts → Advance → Option BadStatus
  then_below place above p ps r = bad_or place r (λ next. first_bad_from x ls ks (place + 1) (above ++ p ∷ []) next ps)

  here : (path : List CertificateParts) (index place : ℕ) (known : KnownIssuers) (p : CertificateParts) (r : Advance) → index < length path
      → p ≡ get_or path index p → r ≡ passed x ls ks (take index path) known p
      → first_bad_from x ls ks place (take index path) known (drop index path) ≡ then_below place (take index path) p (drop (index + 1) path) r
  here path index place known p r bound is comes =
      ap (first_bad_from x ls ks place (take index path) known)
      (drop_more path index p bound ∙ ap (λ (q : CertificateParts). q ∷ drop (index + 1) path) (sym is))
      ∙ ap (then_below place (take index path) p (drop (index + 1) path)) (sym comes)

  -- a certificate that is good is passed
  pub goes : (path : List CertificateParts) (index place : ℕ) (known next : KnownIssuers) (p : CertificateParts) (whole : Option BadStatus)
      → index < length path → p ≡ get_or path index p → Goes next ≡ passed x ls ks (take index path) known p
      → first_bad_from x ls ks place (take index path) known (drop index path) ≡ whole
      → first_bad_from x ls ks (place + 1) (take (index + 1) path) next (drop (index + 1) path) ≡ whole
  goes path index place known next p whole bound is comes inv =
      let front : take (index + 1) path ≡ take index path ++ p ∷ [] =
      take_more path index p bound ∙ ap (λ (q : CertificateParts). take index path ++ q ∷ []) (sym is) in
      ap (λ (above : List CertificateParts). first_bad_from x ls ks (place + 1) above next (drop (index + 1) path)) front
      ∙ sym (here path index place known p (Goes next) bound is comes) ∙ inv

  -- one that isn't ends the search
  pub stops : (path : List CertificateParts) (index place : ℕ) (known : KnownIssuers) (p : CertificateParts) (why : PathReason) (whole : Option BadStatus)
      → index < length path → p ≡ get_or path index p → Stops why ≡ passed x ls ks (take index path) known p
      → first_bad_from x ls ks place (take index path) known (drop index path) ≡ whole → Some (record { place = place; reason = why }) ≡ whole
  stops path index place known p why whole bound is comes inv = sym (here path index place known p (Stops why) bound is comes) ∙ inv
