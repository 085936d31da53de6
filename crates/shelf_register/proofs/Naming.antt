-- The certificate that arguments name.
use Rattle.std.specs.Prelude.{◌≡◌, ◌⊎◌, ℕ, Bool, true, false, cond, find, List, [], ◌∷◌, Option, Some, None, Result, Ok}
use Rattle.std.specs.Str.{bytes_eq}
use Rattle.std.proofs.Common.{ap, inl, inr, refl, subst, sym, ◌∙◌}
use Rattle.std.proofs.lemmas.Slice.Eq.{bytes_eq-Decides}
use Rattle.register_record.specs.Records.{found, has_serial}
use Rattle.register_record.specs.declared.state.Certificate.{Certificate}
use Rattle.register_record.specs.declared.state.Content.{Content}
use Rattle.register_record.specs.declared.state.Content.TheVariants.{Pending, Sealed}
use Rattle.shelf_fault.specs.declared.fault.Fault.{Fault}
use Rattle.shelf_input.specs.Blocks.{blocks_in}
use Rattle.shelf_input.specs.declared.blocks.Blocks.{Blocks}
use Rattle.shelf_register.specs.Importing.{is_sealed_as}
use Rattle.shelf_register.specs.Naming.{IsNamed, IsOfFiles, certificate_of, has_octets}
use Rattle.shelf_register.specs.Options.{IsNumber}
use Rattle.shelf_register.specs.Steps.{Has}

same_bytes : (a b : List ℕ) → bytes_eq a b ≡ true → a ≡ b
same_bytes a b e = (bytes_eq-Decides a b).0 e

-- ---- by a serial number

pub found_has : (q : List ℕ) (cs : List Certificate) (c : Certificate) → Some c ≡ found q cs → Has c cs
found_has q [] c e = absurd (cc)
found_has q (x ∷ cs) c e = go (has_serial q x) (found_has q cs c) e
  where
    go : (b : Bool) → (Some c ≡ found q cs → Has c cs) → Some c ≡ cond b (Some x) (found q cs) → (x ≡ c) ⊎ Has c cs
    go true later e = inl (cc)
    go false later e = inr (later e)

pub found_serial : (q : List ℕ) (cs : List Certificate) (c : Certificate) → Some c ≡ found q cs → c.serial ≡ q
found_serial q [] c e = absurd (cc)
found_serial q (x ∷ cs) c e = go (has_serial q x) refl (found_serial q cs c) e
  where
    go : (b : Bool) → has_serial q x ≡ b → (Some c ≡ found q cs → c.serial ≡ q) → Some c ≡ cond b (Some x) (found q cs) → c.serial ≡ q
    go true is later e = let same : c ≡ x = cc in ap (λ (y : Certificate). y.serial) same ∙ same_bytes x.serial q is
    go false is later e = later e

pub number : (text serial : List ℕ) (c : Certificate) → IsNumber text serial → c.serial ≡ serial → IsNumber text c.serial
number text serial c is same = subst (λ (x : List ℕ). IsNumber text x) (sym same) is

-- ---- by files

pub certificate_is : (r : Result Blocks Fault) (b : Blocks) (octets : List ℕ) → r ≡ Ok b → b.certificate ≡ Some octets → certificate_of r ≡ Some octets
certificate_is r b octets is has = ap certificate_of is ∙ has

sealed_as : (octets : List ℕ) (content : Content) → is_sealed_as octets (Some content) ≡ true → content ≡ Sealed octets
sealed_as octets (Pending message) e = absurd (cc)
sealed_as octets (Sealed sealed) e = ap (λ (x : List ℕ). Sealed x) (same_bytes sealed octets e)

pub octets_has : (octets : List ℕ) (cs : List Certificate) (c : Certificate) → Some c ≡ find (has_octets octets) cs → Has c cs
octets_has octets [] c e = absurd (cc)
octets_has octets (x ∷ cs) c e = go (has_octets octets x) (octets_has octets cs c) e
  where
    go : (b : Bool) → (Some c ≡ find (has_octets octets) cs → Has c cs) → Some c ≡ cond b (Some x) (find (has_octets octets) cs) → (x ≡ c) ⊎ Has c cs
    go true later e = inl (cc)
    go false later e = inr (later e)

octets_sealed : (octets : List ℕ) (cs : List Certificate) (c : Certificate) → Some c ≡ find (has_octets octets) cs → c.content ≡ Sealed octets
octets_sealed octets [] c e = absurd (cc)
octets_sealed octets (x ∷ cs) c e = go (has_octets octets x) refl (octets_sealed octets cs c) e
  where
    go : (b : Bool) → has_octets octets x ≡ b → (Some c ≡ find (has_octets octets) cs → c.content ≡ Sealed octets)
        → Some c ≡ cond b (Some x) (find (has_octets octets) cs) → c.content ≡ Sealed octets
    go true is later e = let same : c ≡ x = cc in ap (λ (y : Certificate). y.content) same ∙ sealed_as octets x.content is
    go false is later e = later e

pub of_files : (octets : List ℕ) (files : List (List ℕ)) (cs : List Certificate) (c : Certificate) → certificate_of (blocks_in files) ≡ Some octets
    → Some c ≡ find (has_octets octets) cs → IsOfFiles files c
of_files octets files cs c read is = record { octets = octets; read = read; issued = octets_sealed octets cs c is }

-- ---- by one of them

pub by_number : (o : Option (List ℕ)) (text : List ℕ) (files : List (List ℕ)) (c : Certificate) → Some text ≡ o → IsNumber text c.serial → IsNamed o files c
by_number (Some t) text files c e is = let same : text ≡ t = cc in subst (λ (x : List ℕ). IsNumber x c.serial) same is
by_number None text files c e is = absurd (cc)

pub by_files : (o : Option (List ℕ)) (files : List (List ℕ)) (c : Certificate) → None ≡ o → IsOfFiles files c → IsNamed o files c
by_files (Some t) files c e is = absurd (cc)
by_files None files c e is = is
