-- Addresses in networks, a line for each field (RFC 5280, A.1).
use Rattle.std.specs.Prelude.{◌≡◌, ◌⊎◌, true, ℕ, List, [], ◌∷◌, Some, None, is_ok, refl}
use Rattle.std.proofs.Common.{inl, inr}
use Rattle.asn1_core.specs.StringTypes.{numeric}
use Rattle.asn1_core.specs.Octets.{octet_contents}
use Rattle.der_tree.specs.Codec.{Codec, Struct}
use Rattle.der_tree.specs.Element.{element_octets, identifier_octets, length_octets}
use Rattle.der_tree.specs.Grammar.{as_choice, as_struct, either, explicitly, implicitly, optional, required, sequence, set_of, sized, ◌&◌, ◌⊗◌}
use Rattle.der_tree.specs.PrimitiveTypes.{octet_string}
use Rattle.der_tree.specs.SetOf.{set_put}
use Rattle.der_tree.specs.Tags.{context, universal}
use Rattle.pkix_x400_ext.specs.declared.network.ExtendedNetworkAddress.{ExtendedNetworkAddress}
use Rattle.pkix_x400_ext.specs.declared.network.E1634Address.{E1634Address}
use Rattle.pkix_x400_ext.specs.declared.network.PresentationAddress.{PresentationAddress}
use Rattle.pkix_x400_ext.specs.declared.network.ExtendedNetworkAddress.TheVariants as extended_network_address_kind

unfoldable pub e1634_address_fields : Struct E1634Address
e1634_address_fields = as_struct (
    required (implicitly (context 0) (sized numeric 1 (Some 15) refl) refl)
    & optional (implicitly (context 1) (sized numeric 1 (Some 40) refl) refl)
    ) refl
    (λ v. v.number ⊗ v.sub_address)
    (λ number sub_address. record { number = number; sub_address = sub_address }) (λ v. refl) (λ f. refl)

abbrev pub e1634_address : Codec E1634Address
e1634_address = sequence (universal 16) e1634_address_fields

-- a set of one, with no octets
abbrev pub one_address : List (List ℕ)
one_address = [] ∷ []

pub one_address_is : is_ok (set_put octet_string 1 None one_address) ≡ true
unfolding octet_contents element_octets identifier_octets length_octets
one_address_is = refl

unfoldable pub presentation_address_fields : Struct PresentationAddress
presentation_address_fields = as_struct (
    optional (explicitly (context 0) octet_string)
    & optional (explicitly (context 1) octet_string)
    & optional (explicitly (context 2) octet_string)
    & required (explicitly (context 3) (set_of octet_string 1 None one_address one_address_is))
    ) refl
    (λ v. v.p_selector ⊗ v.s_selector ⊗ v.t_selector ⊗ v.n_addresses)
    (λ p_selector s_selector t_selector n_addresses. record {
      p_selector = p_selector;
      s_selector = s_selector;
      t_selector = t_selector;
      n_addresses = n_addresses;
    }) (λ v. refl) (λ f. refl)

abbrev pub presentation_address : Codec PresentationAddress
presentation_address = sequence (universal 16) presentation_address_fields

abbrev pub extended_network_address_parts : ExtendedNetworkAddress → E1634Address ⊎ PresentationAddress
extended_network_address_parts (extended_network_address_kind.E1634Address v) = inl v
extended_network_address_parts (extended_network_address_kind.PsapAddress v) = inr v

abbrev pub extended_network_address_of : E1634Address ⊎ PresentationAddress → ExtendedNetworkAddress
extended_network_address_of (inl v) = extended_network_address_kind.E1634Address v
extended_network_address_of (inr v) = extended_network_address_kind.PsapAddress v

pub extended_network_address_there : (v : ExtendedNetworkAddress) → extended_network_address_of (extended_network_address_parts v) ≡ v
extended_network_address_there (extended_network_address_kind.E1634Address v) = refl
extended_network_address_there (extended_network_address_kind.PsapAddress v) = refl

pub extended_network_address_back : (p : E1634Address ⊎ PresentationAddress) → extended_network_address_parts (extended_network_address_of p) ≡ p
extended_network_address_back (inl v) = refl
extended_network_address_back (inr v) = refl

abbrev pub extended_network_address : Codec ExtendedNetworkAddress
extended_network_address =
    as_choice (either e1634_address (implicitly (context 0) presentation_address refl) refl) extended_network_address_parts extended_network_address_of
    extended_network_address_there extended_network_address_back
