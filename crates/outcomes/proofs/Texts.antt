-- How many octets names and texts have at most.
use Rattle.std.specs.Prelude.{◌≡◌, ℕ, ◌+◌, List, [], ◌∷◌, length, map, None, refl, is_none}
use Rattle.std.specs.List.{AllZip, sum_by}
use Rattle.std.proofs.Common.{arith, subst, sym}
use Rattle.asn1_core.specs.Binds.{chosen}
use Rattle.asn1_core.specs.StringTypes.{StringType, ia5}
use Rattle.asn1_core.specs.Texts.{fault_of, text_contents}
use Rattle.der_tree.specs.CharacterStrings.{ia5_string, text}
use Rattle.der_tree.specs.Grammar.{sequence_of}
use Rattle.der_tree.specs.Tags.{context, universal}
use Rattle.der_tree.specs.declared.error.EncodeError.TheVariants.{SizeOutOfRange}
use Rattle.pkix_cert.specs.Distributions.{distribution_point_name}
use Rattle.pkix_name.specs.GeneralNames.{general_name}
use Rattle.pkix_name.specs.declared.general_name.GeneralName.{GeneralName}
use Rattle.pkix_name.specs.declared.general_name.GeneralName.TheVariants.{Uri}
use Rattle.rcgen_certificate.specs.DistributionPoints.{full_name}
use Rattle.outcomes.specs.Sizes.{uri_size}
use Rattle.outcomes.proofs.Within.{Within, as_they_are, in_implicit, in_leaf, in_list}

pub text_within : (s : StringType) (v : List ℕ) → Within (text s) v (20 + length v)
unfolding text_contents
text_within s v = in_leaf (universal s.number) SizeOutOfRange (text_contents s) v (length v) (λ b e. as_they_are v b (chosen (is_none (fault_of s v)) v b e).1)

pub uri_within : (v : List ℕ) → Within general_name (Uri v) (uri_size v)
uri_within v t e = let k = in_implicit (context 6) ia5_string refl v (20 + length v) (text_within ia5 v) t e in omega arith

uris_zip : (uris : List (List ℕ)) → AllZip (λ (u : List ℕ) (n : GeneralName). n ≡ Uri u) uris (map Uri uris)
uris_zip [] = tt
uris_zip (u ∷ uris) = (refl, uris_zip uris)

pub uris_within : (uris : List (List ℕ)) → Within (sequence_of general_name 0 None refl) (map Uri uris) (20 + sum_by uri_size uris)
uris_within uris =
    in_list general_name 0 None refl (λ (u : List ℕ) (n : GeneralName). n ≡ Uri u) uri_size
    (λ u n e. subst (λ (x : GeneralName). Within general_name x (uri_size u)) (sym e) (uri_within u)) uris (map Uri uris) (uris_zip uris)

pub point_name_within : (uris : List (List ℕ)) → Within distribution_point_name (full_name uris) (40 + sum_by uri_size uris)
point_name_within uris t e =
    let k = in_implicit (context 0) (sequence_of general_name 0 None refl) refl (map Uri uris) (20 + sum_by uri_size uris) (uris_within uris) t e in
    omega arith
