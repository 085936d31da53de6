-- General names (RFC 5280, 4.2.1.6), a line for each alternative.
use Rattle.std.specs.Prelude.{◌≡◌, ℕ, ◌⊎◌, List, refl}
use Rattle.std.proofs.Common.{inl, inr}
use Rattle.der_tree.specs.CharacterStrings.{ia5_string}
use Rattle.der_tree.specs.Codec.{Codec, Struct}
use Rattle.der_tree.specs.Grammar.{any, as_choice, as_struct, either, explicitly, implicitly, optional, required, sequence, ◌&◌, ◌⊗◌}
use Rattle.der_tree.specs.InstanceOf.{instance_of}
use Rattle.der_tree.specs.PrimitiveTypes.{object_identifier, octet_string}
use Rattle.der_tree.specs.Tags.{context, universal}
use Rattle.der_tree.specs.declared.instance_of.InstanceOf.{InstanceOf}
use Rattle.pkix_name.specs.DirectoryStrings.{directory_string}
use Rattle.pkix_name.specs.Names.{name}
use Rattle.pkix_name.specs.declared.name.Name.{Name}
use Rattle.pkix_x400.specs.Addresses.{or_address}
use Rattle.pkix_x400.specs.declared.address.OrAddress.{OrAddress}
use Rattle.pkix_name.specs.declared.general_name.EdiPartyName.{EdiPartyName}
use Rattle.pkix_name.specs.declared.general_name.GeneralName.{GeneralName}
use Rattle.pkix_name.specs.declared.general_name.GeneralName.TheVariants as names

unfoldable pub edi_party_name_fields : Struct EdiPartyName
edi_party_name_fields = as_struct (
    optional (explicitly (context 0) directory_string)
    & required (explicitly (context 1) directory_string)
    ) refl
    (λ v. v.name_assigner ⊗ v.party_name)
    (λ name_assigner party_name. record { name_assigner = name_assigner; party_name = party_name }) (λ v. refl) (λ f. refl)

abbrev pub edi_party_name : Codec EdiPartyName
edi_party_name = sequence (universal 16) edi_party_name_fields

abbrev pub Nine : Type 0
Nine =
    InstanceOf (List ℕ) ⊎ (List ℕ ⊎ (List ℕ ⊎ (OrAddress ⊎ (Name ⊎ (EdiPartyName ⊎ (List ℕ ⊎ (List ℕ ⊎ List ℕ)))))))

abbrev pub general_name_forms : Codec Nine
general_name_forms =
    either (implicitly (context 0) (instance_of any) refl)
    (either (implicitly (context 1) ia5_string refl)
    (either (implicitly (context 2) ia5_string refl)
    (either (implicitly (context 3) or_address refl)
    (either (explicitly (context 4) name)
    (either (implicitly (context 5) edi_party_name refl)
    (either (implicitly (context 6) ia5_string refl)
    (either (implicitly (context 7) octet_string refl) (implicitly (context 8) object_identifier refl)
    refl) refl) refl) refl) refl) refl) refl) refl

abbrev pub general_name_parts : GeneralName → Nine
general_name_parts (names.OtherName v) = inl v
general_name_parts (names.Rfc822Name v) = inr (inl v)
general_name_parts (names.DnsName v) = inr (inr (inl v))
general_name_parts (names.X400Address v) = inr (inr (inr (inl v)))
general_name_parts (names.DirectoryName v) = inr (inr (inr (inr (inl v))))
general_name_parts (names.EdiPartyName v) = inr (inr (inr (inr (inr (inl v)))))
general_name_parts (names.Uri v) = inr (inr (inr (inr (inr (inr (inl v))))))
general_name_parts (names.IpAddress v) = inr (inr (inr (inr (inr (inr (inr (inl v)))))))
general_name_parts (names.RegisteredId v) = inr (inr (inr (inr (inr (inr (inr (inr v)))))))

abbrev pub general_name_of : Nine → GeneralName
general_name_of (inl v) = names.OtherName v
general_name_of (inr (inl v)) = names.Rfc822Name v
general_name_of (inr (inr (inl v))) = names.DnsName v
general_name_of (inr (inr (inr (inl v)))) = names.X400Address v
general_name_of (inr (inr (inr (inr (inl v))))) = names.DirectoryName v
general_name_of (inr (inr (inr (inr (inr (inl v)))))) = names.EdiPartyName v
general_name_of (inr (inr (inr (inr (inr (inr (inl v))))))) = names.Uri v
general_name_of (inr (inr (inr (inr (inr (inr (inr (inl v)))))))) = names.IpAddress v
general_name_of (inr (inr (inr (inr (inr (inr (inr (inr v)))))))) = names.RegisteredId v

pub general_name_there : (v : GeneralName) → general_name_of (general_name_parts v) ≡ v
general_name_there (names.OtherName v) = refl
general_name_there (names.Rfc822Name v) = refl
general_name_there (names.DnsName v) = refl
general_name_there (names.X400Address v) = refl
general_name_there (names.DirectoryName v) = refl
general_name_there (names.EdiPartyName v) = refl
general_name_there (names.Uri v) = refl
general_name_there (names.IpAddress v) = refl
general_name_there (names.RegisteredId v) = refl

pub general_name_back : (p : Nine) → general_name_parts (general_name_of p) ≡ p
general_name_back (inl v) = refl
general_name_back (inr (inl v)) = refl
general_name_back (inr (inr (inl v))) = refl
general_name_back (inr (inr (inr (inl v)))) = refl
general_name_back (inr (inr (inr (inr (inl v))))) = refl
general_name_back (inr (inr (inr (inr (inr (inl v)))))) = refl
general_name_back (inr (inr (inr (inr (inr (inr (inl v))))))) = refl
general_name_back (inr (inr (inr (inr (inr (inr (inr (inl v)))))))) = refl
general_name_back (inr (inr (inr (inr (inr (inr (inr (inr v)))))))) = refl

abbrev pub general_name : Codec GeneralName
general_name = as_choice general_name_forms general_name_parts general_name_of general_name_there general_name_back
