-- What an address and a subnet are read as.
use Rattle.std.proofs.Common.{◌≡◌, ℕ, List, Option, Some, None, refl, sym}
use Rattle.rcgen_text.specs.Addresses.{ReadsText, IsAddressText, IsSubnetText}
use Rattle.rcgen_text.specs.declared.cidr.CidrSubnet.{CidrSubnet}
use Rattle.rcgen_text.specs.declared.ip.IpAddr.{IpAddr}
use Rattle.toml_format.specs.Addresses.{TextFormat, address, subnet}

-- what a relation says of a text is what its format says
of_text : {A : Type 0} (IsText : List ℕ → A → Type 0) (f : TextFormat IsText) (text : List ℕ) (found : Option A)
    → ReadsText IsText text found → found ≡ f.value_of text
of_text IsText f text (Some x) h = sym ((f.says text x).1 h)
of_text {A} IsText f text None h = sym (nothing (f.value_of text) refl)
  where
    nothing : (o : Option A) → f.value_of text ≡ o → f.value_of text ≡ None
    nothing None e = e
    nothing (Some x) e = absurd (h x ((f.says text x).0 e))

pub is_address : (text : List ℕ) (found : Option IpAddr) → ReadsText IsAddressText text found → found ≡ address.value_of text
is_address text found h = of_text IsAddressText address text found h

pub is_subnet : (text : List ℕ) (found : Option CidrSubnet) → ReadsText IsSubnetText text found → found ≡ subnet.value_of text
is_subnet text found h = of_text IsSubnetText subnet text found h
