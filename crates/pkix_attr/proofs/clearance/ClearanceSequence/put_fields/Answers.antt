-- Where all was put: the default that was made is the one of the definition.
use Rattle.std.specs.Option.{option_copied}
use Rattle.std.proofs.Common.{◌≡◌, subst}
use Rattle.der_tree.specs.Default.{unless_default}
use Rattle.der_tree.proofs.Putting.{put_more, put_as}
use Rattle.pkix_attr.specs.Classes.{same_classes}
use Rattle.pkix_attr.specs.Clearances.{clearance_fields}
use Rattle.pkix_attr.specs.declared.clearance.ClassList.{ClassList}
use Rattle.pkix_attr.proofs.clearance.ClearanceSequence.put_fields.Goals as goal

pub returns : goal.returns
unfolding clearance_fields
returns c =
    let written = subst (λ (d : ClassList). option_copied c.unless_default.result ≡ unless_default same_classes d c.args.self.now.class_list) c.in_ok-unclassified.ensures c.unless_default.ensures in
    put_more _ _ _ _ _ c.in_ok-put.ensures.puts (
    put_more _ _ _ _ _ (put_as _ _ _ _ _ written c.in_ok-put_optional.ensures.puts) (
    put_as _ _ _ _ _ c.as_ref.ensures.value c.in_ok-put_optional-2.ensures.puts))
