-- The addresses and the subnets that texts are of.
use Rattle.std.specs.Prelude.{◌≡◌, ◌↔◌, ℕ, List, Option, Some}
use Rattle.rcgen_text.specs.Addresses.{IsAddressText, IsSubnetText}
use Rattle.toml_format.specs.AddressReading.{read_address, read_subnet}
use Rattle.toml_format.specs.laws.Addresses.{address_says, subnet_says}

-- what a relation says that each text is of, as a function
pub record TextFormat {A : Type 0} (IsText : List ℕ → A → Type 0) : Type 0 where
  pub value_of : List ℕ → Option A
  pub says : (text : List ℕ) (x : A) → (value_of text ≡ Some x) ↔ IsText text x

abbrev pub address : TextFormat IsAddressText
address = record { value_of = read_address; says = address_says }

abbrev pub subnet : TextFormat IsSubnetText
subnet = record { value_of = read_subnet; says = subnet_says }
