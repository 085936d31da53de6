-- What the order of an attribute certificate asks for, as parameters.
use Rattle.std.specs.Prelude.{ℤ, not, List, map, Result, Ok}
use Rattle.std.specs.List.{list_all}
use Rattle.attr_issue.specs.AttributeCertificateView.{AttributeCertificateView}
use Rattle.toml_format.specs.UtcInstant.{instant_of}
use Rattle.profile_params.specs.Attributes.{attribute_of_profile}
use Rattle.rcgen_text.specs.Names.{Entry}
use Rattle.shelf_fault.specs.Faults.{and_then}
use Rattle.shelf_fault.specs.declared.fault.Fault.{Fault}
use Rattle.shelf_fault.specs.declared.fault.Fault.TheVariants.{Obstacle}
use Rattle.shelf_fault.specs.declared.fault.Obstacle.TheVariants.{AttributeValues}
use Rattle.shelf_keys.specs.Refusing.{refuse}
use Rattle.shelf_params.specs.Parameters.{distinct_name, end_after}
use Rattle.shelf_profile.specs.declared.attribute_certificate.AttributeOrder.{AttributeOrder}
use Rattle.shelf_profile.specs.declared.validity.End.{End}
use Rattle.shelf_profile.specs.declared.validity.End.TheVariants.{At, Days}
use Rattle.strict_der.specs.Strict.{is_strict}
use Rattle.toml_format.specs.declared.attribute_certificate.AttributeEntry.{AttributeEntry}

-- until when
abbrev pub end_said : ℤ → End → Result ℤ Fault
end_said start (Days days) = end_after start days
end_said start (At time) = Ok (instant_of time)

-- what it says until this instant, of this holder's issuer
abbrev pub attribute_view : AttributeOrder → List Entry → ℤ → AttributeCertificateView
attribute_view o holder_issuer end = record {
  holder_issuer = holder_issuer;
  holder_serial = o.holder.serial;
  serial_number = o.serial;
  not_before = instant_of o.validity.start;
  not_after = end;
  attributes = map attribute_of_profile o.attributes;
  use_authority_key_identifier_extension = o.authority_key_id;
}

-- the values of each attribute are strict DER
abbrev pub values_strict : List AttributeEntry → Result (Unit {0}) Fault
values_strict attributes = refuse (not (list_all (λ a. is_strict a.values) attributes)) (Obstacle AttributeValues)

-- what the order says
unfoldable pub attribute_params : AttributeOrder → Result AttributeCertificateView Fault
attribute_params o =
    and_then (end_said (instant_of o.validity.start) o.validity.end) (λ end.
    and_then (distinct_name o.holder.name) (λ holder_issuer.
    and_then (values_strict o.attributes) (λ u.
    Ok (attribute_view o holder_issuer end))))
