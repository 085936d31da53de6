-- What is ordered: which other keys an order has depends on its kind and its preset.
use Rattle.std.specs.Prelude.{ℕ, List, [], ◌∷◌, codes, Option, Some, None, Result, Ok, Err}
use Rattle.toml_format.specs.Outcome.{mapped}
use Rattle.toml_format.specs.Tables.{TableFormat, no_keys, ◌&◌, required, optional, fields, chosen}
use Rattle.toml_format.specs.Values.{text_as}
use Rattle.toml_format.specs.Words.{word_of}
use Rattle.toml_format.specs.declared.reason.Reason.{Reason}
use Rattle.toml_format.specs.declared.reason.Reason.TheVariants.{WrongValue}
use Rattle.shelf_profile.specs.AttributeCertificate.{attribute_certificate}
use Rattle.shelf_profile.specs.Certificate.{CertificateValues, certificate_of, certificate_values}
use Rattle.shelf_profile.specs.Preset.{preset, preset_purposes}
use Rattle.shelf_profile.specs.Request.{RequestValues, request_of, request_values}
use Rattle.shelf_profile.specs.RevocationList.{revocation_list}
use Rattle.shelf_profile.specs.declared.attribute_certificate.AttributeOrder.{AttributeOrder}
use Rattle.shelf_profile.specs.declared.order.NoOrder.{NoOrder}
use Rattle.shelf_profile.specs.declared.order.Order.{Order}
use Rattle.shelf_profile.specs.declared.order.Order.TheVariants as ordered
use Rattle.shelf_profile.specs.declared.order.OrderChoice.{OrderChoice}
use Rattle.shelf_profile.specs.declared.order.OrderKind.{OrderKind}
use Rattle.shelf_profile.specs.declared.order.OrderKind.TheVariants as kind
use Rattle.shelf_profile.specs.declared.preset.Preset.{Preset}
use Rattle.shelf_profile.specs.declared.revocation_list.ListOrder.{ListOrder}

-- ---- what is ordered

unfoldable pub order_kind : List ℕ → Option OrderKind
order_kind = word_of ((codes "certificate", kind.Certificate) ∷ (codes "request", kind.Request) ∷ (codes "list", kind.List) ∷ (codes "attribute", kind.Attribute) ∷ [])

abbrev pub ChoiceValues : Type 0
ChoiceValues = (Unit {0} × OrderKind) × Option Preset

-- a list has no preset, nor has an attribute certificate
unfoldable pub choice_of : ChoiceValues → Result OrderChoice Reason
choice_of ((_, kind.Certificate), preset) = Ok (record { kind = kind.Certificate; preset = preset })
choice_of ((_, kind.Request), preset) = Ok (record { kind = kind.Request; preset = preset })
choice_of ((_, kind.List), None) = Ok (record { kind = kind.List; preset = None })
choice_of ((_, kind.List), Some preset) = Err WrongValue
choice_of ((_, kind.Attribute), None) = Ok (record { kind = kind.Attribute; preset = None })
choice_of ((_, kind.Attribute), Some preset) = Err WrongValue

unfoldable pub choice_values : TableFormat ChoiceValues
choice_values =
    no_keys
    & required (codes "kind") (text_as order_kind)
    & optional (codes "profile") (text_as preset)

-- where it isn't known what is ordered, no other key is known
unfoldable pub no_choice_of : Unit {0} → Result NoOrder Reason
no_choice_of _ = Ok (record {})

unfoldable pub no_choice_values : TableFormat (Unit {0})
no_choice_values = no_keys

-- ---- the keys that go with it

abbrev pub certificate_order_of : Option Preset → CertificateValues → Result Order Reason
certificate_order_of preset values = mapped (certificate_of (preset_purposes preset) values) (λ order. ordered.Certificate order preset)

abbrev pub certificate_order : Option Preset → TableFormat Order
certificate_order preset = fields (certificate_values preset) (certificate_order_of preset)

abbrev pub request_order_of : RequestValues → Result Order Reason
request_order_of values = mapped (request_of values) ordered.Request

abbrev pub request_order : Option Preset → TableFormat Order
request_order preset = fields (request_values preset) request_order_of

abbrev pub list_order : TableFormat Order
list_order = fields revocation_list (λ (order : ListOrder). Ok (ordered.List order))

abbrev pub attribute_order : TableFormat Order
attribute_order = fields attribute_certificate (λ (order : AttributeOrder). Ok (ordered.Attribute order))

abbrev pub own_keys_of : OrderKind → Option Preset → TableFormat Order
own_keys_of kind.Certificate preset = certificate_order preset
own_keys_of kind.Request preset = request_order preset
own_keys_of kind.List preset = list_order
own_keys_of kind.Attribute preset = attribute_order

abbrev pub own_keys : OrderChoice → TableFormat Order
own_keys choice = own_keys_of choice.kind choice.preset

-- what is ordered, and the keys that go with it
abbrev pub order_keys : TableFormat Order
order_keys = chosen (fields choice_values choice_of) own_keys (fields no_choice_values no_choice_of)

abbrev pub order : TableFormat Order
order = fields order_keys (λ (o : Order). Ok o)
