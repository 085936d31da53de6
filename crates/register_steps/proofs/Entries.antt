-- A list that was issued before: its entries, one more at a time, and the whole.
use Rattle.std.specs.Prelude.{◌≡◌, ℕ, ◌+◌, ◌<◌, true, List, [], ◌∷◌, ◌++◌, Some, length, take}
use Rattle.std.proofs.Common.{ap, get_or, subst, sym, ◌∙◌}
use Rattle.std.proofs.lemmas.List.{take_more}
use Rattle.der_tree.specs.Form.{value_of}
use Rattle.pkix_cert.specs.Revocations.{tbs_cert_list}
use Rattle.pkix_cert.specs.Views.{certificate_parts}
use Rattle.pkix_cert.specs.declared.revocation.RevokedCertificate.{RevokedCertificate}
use Rattle.pkix_cert.specs.declared.revocation.TbsCertList.{TbsCertList}
use Rattle.register_steps.specs.Listed.{AreListed, IsIssuedList, SaysOfList, entry_in}
use Rattle.register_steps.specs.Names.{matches_subject, subject_in}
use Rattle.register_steps.specs.Sealing.{IsOpened}
use Rattle.register_steps.specs.declared.listed.IssuedList.{IssuedList}
use Rattle.register_steps.specs.declared.listed.ListedEntry.{ListedEntry}

listed_behind : (es : List RevokedCertificate) (xs : List ListedEntry) (e : RevokedCertificate) (x : ListedEntry) → AreListed es xs → entry_in e ≡ Some x
    → AreListed (es ++ e ∷ []) (xs ++ x ∷ [])
listed_behind [] [] e x h k = (k, tt)
listed_behind [] (y ∷ ys) e x h k = absurd h
listed_behind (d ∷ es) [] e x h k = absurd h
listed_behind (d ∷ es) (y ∷ ys) e x h k = (h.0, listed_behind es ys e x h.1 k)

pub listed_more : (es : List RevokedCertificate) (i : ℕ) (e : RevokedCertificate) (xs new : List ListedEntry) (x : ListedEntry) → i < length es
    → e ≡ get_or es i e → AreListed (take i es) xs → entry_in e ≡ Some x → new ≡ xs ++ x ∷ [] → AreListed (take (i + 1) es) new
listed_more es i e xs new x l g h k n =
    let more : take (i + 1) es ≡ take i es ++ e ∷ [] = take_more es i e l ∙ ap (λ (y : RevokedCertificate). take i es ++ y ∷ []) (sym g) in
    subst (λ (ys : List ListedEntry). AreListed (take (i + 1) es) ys) (sym n)
    (subst (λ (ds : List RevokedCertificate). AreListed ds (xs ++ x ∷ [])) (sym more) (listed_behind (take i es) xs e x h k))

-- ---- the list

pub issued : (issuer octets message view : List ℕ) (list : TbsCertList) (i : IssuedList) → IsOpened issuer octets message → view ≡ message
    → value_of tbs_cert_list view ≡ Some list → matches_subject (subject_in (certificate_parts issuer)) list.issuer ≡ true → SaysOfList list i
    → i.message ≡ message → IsIssuedList issuer octets i
issued issuer octets message view list i opened shows is named says same = record {
  opened = subst (λ (x : List ℕ). IsOpened issuer octets x) (sym same) opened;
  list = list;
  list_is = ap (λ (x : List ℕ). value_of tbs_cert_list x) (same ∙ sym shows) ∙ is;
  named = named;
  says = says;
}
