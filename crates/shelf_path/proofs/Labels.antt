-- After the path no block is a certificate by its label.
use Rattle.std.proofs.Common.{◌≡◌, ◌∙◌, ◌⊎◌, ◌&&◌, ℕ, suc, Bool, true, false, cond, List, [], ◌∷◌, length, nat_lt, codes, Option, Some, None, Result, Ok, Err, ap, arith, inl, inr, refl, reverse, sym}
use Rattle.std.proofs.lemmas.List.Elements.{Contains-append_cases, Contains-push_cases}
use Rattle.std.proofs.lemmas.Slice.Eq.{bytes_eq-Decides}
use Rattle.std.specs.List.{Contains}
use Rattle.std.specs.Str.{bytes_eq}
use Rattle.der_tree.specs.Form.{value_of}
use Rattle.pem.specs.Encoding.{Encoding}
use Rattle.pkix_cert.specs.Revocations.{certificate_list}
use Rattle.pkix_cert.specs.declared.revocation.CertificateList.{CertificateList}
use Rattle.shelf_fault.specs.Faults.{and_then, some_or}
use Rattle.shelf_fault.specs.declared.fault.Fault.{Fault}
use Rattle.shelf_fault.specs.declared.fault.Fault.TheVariants.{NotList}
use Rattle.shelf_path.specs.Asked.{Asked, asked_behind, asked_of}
use Rattle.shelf_path.specs.Certificates.{certificates_behind, is_certificate}
use Rattle.shelf_path.specs.Laws.{AnchorIsLast}
use Rattle.shelf_path.specs.ListIssuers.{most_issuers}
use Rattle.shelf_path.specs.RevocationLists.{RevocationData, certificate_blocks, certificate_count, is_issuer, is_list, issuer_in, list_blocks, list_in, lists_behind, no_data, with_block, with_certificate, with_list}
use Rattle.shelf_path.proofs.Goods.{only}

-- ---- labels

other : (l a b : List ℕ) → bytes_eq a b ≡ false → bytes_eq l a ≡ true → bytes_eq l b ≡ false
other l a b apart is = ap (λ (x : List ℕ). bytes_eq x b) ((bytes_eq-Decides l a).0 is) ∙ apart

list_is_other : (e : Encoding) → is_list e ≡ true → is_certificate e ≡ false
list_is_other e is = other e.label (codes "X509 CRL") (codes "CERTIFICATE") refl is

issuer_is_other : (e : Encoding) → is_issuer e ≡ true → is_certificate e ≡ false
issuer_is_other e is = other e.label (codes "CRL ISSUER CERTIFICATE") (codes "CERTIFICATE") refl is

-- ---- steps that come to something

opened : {A B : Type 0} (o : Result A Fault) (f : A → Result B Fault) (r : B) → and_then o f ≡ Ok r → (x : A) × (o ≡ Ok x) × (f x ≡ Ok r)
opened (Ok x) f r h = (x, refl, h)
opened (Err fault) f r h = absurd cc

labelled : (b : Bool) (o : Option CertificateList) (fault : Fault) (l : CertificateList) → some_or (cond b o None) fault ≡ Ok l → b ≡ true
labelled true o fault l h = refl
labelled false o fault l h = absurd cc

list_there : (number : ℕ) (e : Encoding) (l : CertificateList) → list_in number e ≡ Ok l → is_list e ≡ true
unfolding list_in
list_there number e l h = labelled (is_list e) (value_of certificate_list e.octets) (NotList number) l h

one_of_both : (issuer few : Bool) (a b : Result RevocationData Fault) (next : RevocationData) → cond (issuer && few) a b ≡ Ok next
    → (issuer ≡ true) ⊎ (b ≡ Ok next)
one_of_both true few a b next h = inl refl
one_of_both false few a b next h = inr h

by_label : (number : ℕ) (e : Encoding) (b next : RevocationData)
    → (is_issuer e ≡ true) ⊎ (and_then (list_in number e) (λ l. Ok (with_list b l)) ≡ Ok next) → is_certificate e ≡ false
by_label number e b next (inl is) = issuer_is_other e is
by_label number e b next (inr h) =
    let o = opened (list_in number e) (λ l. Ok (with_list b l)) next h in
    list_is_other e (list_there number e o.0 o.1)

block_is_other : (number : ℕ) (e : Encoding) (b next : RevocationData) → with_block number e b ≡ Ok next → is_certificate e ≡ false
unfolding with_block
block_is_other number e b next h =
    by_label number e b next
    (one_of_both (is_issuer e) (nat_lt (length b.issuers) most_issuers) (and_then (issuer_in number e) (λ k. Ok (with_certificate b k)))
    (and_then (list_in number e) (λ l. Ok (with_list b l))) next h)

-- ---- all blocks

here_or_behind : (x : Encoding) (es : List Encoding) (e : Encoding) → Contains (x ∷ []) e ⊎ Contains es e → is_certificate x ≡ false
    → (Contains es e → is_certificate e ≡ false) → is_certificate e ≡ false
here_or_behind x es e (inl there) here rest =
    ap (λ (y : Encoding). is_certificate y) (sym (only x e (Contains-push_cases [] x e there))) ∙ here
here_or_behind x es e (inr there) here rest = rest there

no_certificate : (es : List Encoding) (count : ℕ) (b r : RevocationData) (e : Encoding) → lists_behind count b es ≡ Ok r → Contains es e
    → is_certificate e ≡ false
no_certificate [] count b r e h there = absurd (omega (arith, there.1))
no_certificate (x ∷ es) count b r e h there =
    let o = opened (with_block (suc count) x b) (λ next. lists_behind (suc count) next es) r h in
    here_or_behind x es e (Contains-append_cases (x ∷ []) es e there) (block_is_other (suc count) x b o.0 o.1) (no_certificate es (suc count) o.0 r e o.2)

pub anchor_is_last : AnchorIsLast
unfolding asked_behind
anchor_is_last q blocks a e h there =
    let count = certificate_count q.revocation blocks in
    let rest = list_blocks q.revocation blocks in
    let o = opened (certificates_behind 0 (certificate_blocks q.revocation blocks))
    (λ ps. and_then (lists_behind count no_data rest) (λ b. asked_of q b (reverse ps))) a h in
    let p = opened (lists_behind count no_data rest) (λ b. asked_of q b (reverse o.0)) a o.2 in
    no_certificate rest count no_data p.0 e p.1 there
