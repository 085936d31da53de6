-- Subjects by their keys, and by the info of others.
use Rattle.std.proofs.Common.{◌≡◌, ◌∙◌, ℕ, true, List, Result, Ok, Err, is_ok, ap, refl, sym}
use Rattle.der_tree.specs.HasTree.{HasTree}
use Rattle.der_tree.specs.Tree.{PlainTree}
use Rattle.der_tree.specs.declared.error.EncodeError.{EncodeError}
use Rattle.pkix_cert.specs.Algorithms.{subject_public_key_info}
use Rattle.pkix_cert.specs.declared.algorithm.SubjectPublicKeyInfo.{SubjectPublicKeyInfo}
use Rattle.pkix_name.specs.Names.{name as name_codec}
use Rattle.pkix_name.specs.declared.name.Name.{Name}
use Rattle.rcgen_sign.specs.Keys.{Key}
use Rattle.rcgen_tbs.specs.declared.subject.Subject.{Subject}
use Rattle.shelf_fault.specs.Faults.{Gets}
use Rattle.shelf_fault.specs.declared.fault.Fault.{Fault}
use Rattle.shelf_fault.specs.declared.fault.Fault.TheVariants as fault
use Rattle.shelf_keys.specs.Encoded.{bytes_or, encoded}
use Rattle.shelf_job.specs.Jobs.{subject_by}

same_subject : (found given : Result Key Fault) (info : SubjectPublicKeyInfo) (r : Result Subject Fault) → found ≡ given → r ≡ subject_by given info
    → Gets (λ s. s) (subject_by found info) r
same_subject found given info (Ok s) e is = ap (λ (k : Result Key Fault). subject_by k info) e ∙ sym is
same_subject found given info (Err f) e is = λ n. ap (λ (k : Result Key Fault). subject_by k info) e ∙ sym is

-- what was found of the key is what there is, unless memory runs out
pub by_key : (found given : Result Key Fault) (info : SubjectPublicKeyInfo) (r : Result Subject Fault) → Gets (λ k. k) found given
    → r ≡ subject_by given info → Gets (λ s. s) (subject_by found info) r
by_key found (Ok key) info r h is = same_subject found (Ok key) info r h is
by_key found (Err fault.OutOfMemory) info (Ok s) h is = cc
by_key found (Err fault.OutOfMemory) info (Err f) h is = λ n. absurd (n (cc))
by_key found (Err other) info r h is = same_subject found (Err other) info r (h (λ e. cc)) is

encodes : (r : Result PlainTree EncodeError) (f : Fault) (b : List ℕ) → bytes_or f r ≡ Ok b → is_ok r ≡ true
encodes (Ok t) f b e = refl
encodes (Err x) f b e = cc

-- what has a DER encoding has a tree
pub name_has_tree : (name : Name) (f : Fault) (b : List ℕ) → encoded name_codec f name ≡ Ok b → HasTree name_codec name
name_has_tree name f b e = name_codec.has_tree_is name ∙ encodes (name_codec.tree_of name) f b e

pub info_has_tree : (info : SubjectPublicKeyInfo) (f : Fault) (b : List ℕ) → encoded subject_public_key_info f info ≡ Ok b
    → HasTree subject_public_key_info info
info_has_tree info f b e = subject_public_key_info.has_tree_is info ∙ encodes (subject_public_key_info.tree_of info) f b e
