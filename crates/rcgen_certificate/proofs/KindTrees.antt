-- The trees of extensions' values, and the extensions that their rows are.
use Rattle.std.specs.Prelude.{◌≡◌, ℕ, ◌^◌, ◌<◌, ◌≤◌, Bool, true, false, ◌&&◌, cond, nat_lt, ◌==◌, List, [], ◌∷◌, ◌++◌, length, map}
use Rattle.std.specs.Prelude.{Option, Some, None, is_some, refl}
use Rattle.std.specs.Int.{trailing_zeros, w8}
use Rattle.std.specs.List.{AllByRecursion, list_all, list_any}
use Rattle.std.specs.Option.{IfSome, option_map}
use Rattle.std.proofs.Common.{ap, arith}
use Rattle.std.proofs.lemmas.Bool.{le-leb, ne_eqb}
use Rattle.std.proofs.lemmas.List.{length-append}
use Rattle.rcgen_certificate.specs.SubjectAltNames.{address_octets, general_name_value, has_type_id, is_ascii_name, subject_alt_name, subject_alt_name_row}
use Rattle.asn1_core.specs.Binds.{and_true}
use Rattle.asn1_core.specs.Bits.{Bits, are_bits, bits, bit_string_contents}
use Rattle.asn1_core.specs.Octets.{boolean_contents, octet_contents}
use Rattle.asn1_core.specs.StringTypes.{ia5}
use Rattle.asn1_core.specs.Texts.{text_contents}
use Rattle.asn1_core.specs.Twos.{integer_contents, unsigned, with_sign}
use Rattle.der_tree.specs.Default.{unless_default}
use Rattle.der_tree.specs.Element.{element_octets, identifier_octets, length_octets}
use Rattle.der_tree.specs.Grammar.{sequence_of}
use Rattle.der_tree.specs.HasTree.{HasShortTree, HasTree}
use Rattle.der_tree.specs.InstanceOf.{instance_of_fields}
use Rattle.der_tree.specs.PrimitiveTypes.{bit_string, integer, object_identifier, octet_string}
use Rattle.der_tree.specs.Tags.{context, universal}
use Rattle.der_tree.specs.Tree.{leaf, node, raw, row}
use Rattle.der_tree.specs.TreeBytes.{bytes, made}
use Rattle.pkix_cert.specs.Constraints.{basic_constraints, basic_constraints_fields, general_subtree, general_subtree_fields}
use Rattle.pkix_cert.specs.Constraints.{name_constraints as name_constraints_codec, name_constraints_fields}
use Rattle.pkix_cert.specs.Distances.{zero}
use Rattle.pkix_cert.specs.Distributions.{distribution_point, distribution_point_fields}
use Rattle.pkix_cert.specs.ExtensionIds.{ce_authority_key_identifier, ce_basic_constraints, ce_crl_distribution_points, ce_ext_key_usage, ce_key_usage}
use Rattle.pkix_cert.specs.ExtensionIds.{ce_name_constraints, ce_subject_alt_name, ce_subject_key_identifier, id_ce}
use Rattle.pkix_cert.specs.KeyIdentifiers.{authority_key_identifier, authority_key_identifier_fields}
use Rattle.pkix_name.specs.GeneralNames.{general_name}
use Rattle.pkix_name.specs.declared.general_name.GeneralName.{GeneralName}
use Rattle.pkix_name.specs.declared.general_name.GeneralName.TheVariants.{DirectoryName, DnsName, IpAddress, Rfc822Name, Uri}
use Rattle.rcgen_text.specs.Addresses.{subnet_octets}
use Rattle.rcgen_text.specs.AlternativeNames.{AlternativeName, rfc822_name, dns_name, uri, ip_address, other_name}
use Rattle.rcgen_text.specs.DnValues.{utf8_string}
use Rattle.rcgen_text.specs.Strings.{is_ia5}
use Rattle.rcgen_sign.proofs.ElementCounts.{element_octets_count}
use Rattle.rcgen_certificate.specs.AsciiTexts.{is_ascii}
use Rattle.rcgen_certificate.specs.BasicConstraints.{basic_constraints_row, constraints}
use Rattle.rcgen_certificate.specs.DistributionPoints.{crl_distribution_points, crl_distribution_points_row, point_value, uri_texts}
use Rattle.rcgen_certificate.specs.ExtendedKeyUsages.{Purpose, ext_key_usage, ext_key_usage_row, has_purpose_oid, purpose_oid}
use Rattle.rcgen_certificate.specs.ExtensionRows.{unless_empty}
use Rattle.rcgen_certificate.specs.KeyIdentifiers.{authority_key, authority_key_if, authority_key_row, subject_key_if, subject_key_row}
use Rattle.rcgen_certificate.specs.KeyUsages.{bit_of, first_byte, key_usage, key_usage_row, named_bits}
use Rattle.rcgen_certificate.specs.NameConstraints.{Base, Bases, rfc822_base, dns_base, directory_base, ip_base, all_bases, base_texts}
use Rattle.rcgen_certificate.specs.NameConstraints.{constraint_texts}
use Rattle.rcgen_certificate.specs.NameConstraints.{constraints_value, has_base_types, has_subtree_types, name_constraints, name_constraints_row, subtree_value, subtrees}
use Rattle.rcgen_certificate.specs.NameValues.{name_value, text_element}
use Rattle.rcgen_certificate.specs.ShortParts.{HaveShortTexts, HasShortBase, HasShortText}
use Rattle.rcgen_text.specs.declared.basic_constraints.BasicConstraints.TheVariants.{Unconstrained, Constrained}
use Rattle.rcgen_text.specs.declared.basic_constraints.IsCa.{IsCa}
use Rattle.rcgen_text.specs.declared.basic_constraints.IsCa.TheVariants.{NoCa, ExplicitNoCa, Ca}
use Rattle.rcgen_text.specs.declared.key_usage.KeyUsagePurpose.{KeyUsagePurpose}
use Rattle.rcgen_certificate.proofs.KeyUsages.{one_byte}
use Rattle.rcgen_certificate.proofs.AsciiTexts.{each_ascii}
use Rattle.rcgen_certificate.proofs.ListTrees.{TreesOf, both_hold, each_of_both, each_passes, each_tree, list_tree}
use Rattle.rcgen_certificate.proofs.RelativeNames.{contents_there, name_tree, value_is_one}
use Rattle.rcgen_certificate.proofs.RowTrees.{HasRows, row_of_value, tree_row}
use Rattle.rcgen_certificate.proofs.Rows.{no_fault_of}
use Rattle.rcgen_certificate.proofs.Shortest.{unsigned_shortest}
use Rattle.rcgen_certificate.proofs.Trees.{ShortTreeOf, TreeOf, has_tree_if, of_short_if, short_leaf}

-- the value that is there where a list isn't empty
some_list : {A B : Type 0} (value : List A → B) (P : B → Type 0) (xs : List A) → ((length xs == 0) ≡ false → P (value xs))
    → IfSome (option_map value (unless_empty xs)) P
some_list {A} {B} value P xs h =
    elim (length xs == 0) as (λ b. (length xs == 0) ≡ b → IfSome (option_map value (cond b None (Some xs))) P) [
      | true ↦ λ e. tt
      | false ↦ λ e. h e
    ] refl

-- ---- alternative names

text_is : (text : List ℕ) → list_all is_ia5 text ≡ true → (text_contents ia5).to text ≡ Some text
unfolding text_contents
text_is text h = rw (no_fault_of text h) refl

general_name_tree : (n : AlternativeName) → has_type_id n ≡ true → is_ascii_name n ≡ true → HasShortText n → TreeOf general_name (general_name_value n)
unfolding instance_of_fields octet_contents
general_name_tree (rfc822_name t) r a s = record { tree = leaf (context 1) t; is_tree = rw (text_is t a) refl; tags = refl }
general_name_tree (dns_name t) r a s = record { tree = leaf (context 2) t; is_tree = rw (text_is t a) refl; tags = refl }
general_name_tree (uri t) r a s = record { tree = leaf (context 6) t; is_tree = rw (text_is t a) refl; tags = refl }
general_name_tree (ip_address d) r a s = record { tree = leaf (context 7) (address_octets d); is_tree = refl; tags = refl }
general_name_tree (other_name arcs t) r a s =
    let o = contents_there arcs r in
    let one = ap is_some (value_is_one (utf8_string t) s) in
    record {
      tree = node (context 0)
          (row (leaf (universal 6) o.0 ∷ node (context 0) (row (raw (element_octets (text_element (utf8_string t))) ∷ [])) ∷ []));
      is_tree = rw (o.1, one) refl;
      tags = refl;
    }

-- what makes a name's tree
abbrev IsFineName : AlternativeName → Type 0
IsFineName n = ((has_type_id n ≡ true) × (is_ascii_name n ≡ true)) × HasShortText n

subject_alt_name_tree : (ns : List AlternativeName) → list_all has_type_id ns ≡ true → list_all is_ascii_name ns ≡ true → HaveShortTexts ns
    → IfSome (subject_alt_name ns) (TreeOf (sequence_of general_name 0 None refl))
subject_alt_name_tree ns r a s =
    let passed = both_hold (λ n. has_type_id n ≡ true) (λ n. is_ascii_name n ≡ true) ns (each_passes has_type_id ns r)
    (each_passes is_ascii_name ns a) in
    let fine = both_hold (λ n. (has_type_id n ≡ true) × (is_ascii_name n ≡ true)) HasShortText ns passed s in
    let parts = each_tree general_name general_name_value IsFineName (λ n h. general_name_tree n h.0.0 h.0.1 h.1) ns fine in
    some_list (map general_name_value) (TreeOf (sequence_of general_name 0 None refl)) ns
    (λ e. list_tree general_name (map general_name_value ns) parts)

pub subject_alt_name_there : (critical : Bool) (ns : List AlternativeName) → list_all has_type_id ns ≡ true → list_all is_ascii_name ns ≡ true
    → HaveShortTexts ns → IfSome (subject_alt_name ns) (HasShortTree (sequence_of general_name 0 None refl))
    → HasRows (subject_alt_name_row critical ns)
subject_alt_name_there critical ns r a t s =
    tree_row (id_ce ce_subject_alt_name) critical (sequence_of general_name 0 None refl) (subject_alt_name ns) refl (subject_alt_name_tree ns r a t) s

-- ---- purposes

purpose_tree : (p : Purpose) → has_purpose_oid p ≡ true → TreeOf object_identifier (purpose_oid p)
purpose_tree p h = let o = contents_there (purpose_oid p) h in record { tree = leaf (universal 6) o.0; is_tree = rw o.1 refl; tags = refl }

ext_key_usage_tree : (ps : List Purpose) → list_all has_purpose_oid ps ≡ true
    → IfSome (ext_key_usage ps) (TreeOf (sequence_of object_identifier 0 None refl))
ext_key_usage_tree ps h =
    let parts = each_tree object_identifier purpose_oid (λ p. has_purpose_oid p ≡ true) purpose_tree ps (each_passes has_purpose_oid ps h) in
    some_list (map purpose_oid) (TreeOf (sequence_of object_identifier 0 None refl)) ps
    (λ e. list_tree object_identifier (map purpose_oid ps) parts)

pub ext_key_usage_formed : (ps : List Purpose) → list_all has_purpose_oid ps ≡ true
    → IfSome (ext_key_usage ps) (HasTree (sequence_of object_identifier 0 None refl))
ext_key_usage_formed ps h = has_tree_if (sequence_of object_identifier 0 None refl) (ext_key_usage ps) (ext_key_usage_tree ps h)

pub ext_key_usage_there : (ps : List Purpose) → list_all has_purpose_oid ps ≡ true
    → IfSome (ext_key_usage ps) (HasShortTree (sequence_of object_identifier 0 None refl)) → HasRows (ext_key_usage_row ps)
ext_key_usage_there ps h s =
    tree_row (id_ce ce_ext_key_usage) false (sequence_of object_identifier 0 None refl) (ext_key_usage ps) refl (ext_key_usage_tree ps h) s

-- ---- name constraints

subtree_of : (g : GeneralName) → TreeOf general_name g → TreeOf general_subtree (record { base = g; minimum = zero; maximum = None })
unfolding general_subtree_fields unless_default
subtree_of g h = record { tree = node (universal 16) (row (h.tree ∷ [])); is_tree = rw h.is_tree refl; tags = rw h.tags refl }

base_text : (text : List ℕ) → list_all is_ascii (text ∷ []) ≡ true → (text_contents ia5).to text ≡ Some text
base_text text h = text_is text (and_true (is_ascii text) true h).0

base_subtree : (b : Base) → has_base_types b ≡ true → list_all is_ascii (base_texts b) ≡ true → HasShortBase b
    → TreeOf general_subtree (subtree_value b)
unfolding octet_contents
base_subtree (rfc822_base t) r a s =
    subtree_of (Rfc822Name t) (record { tree = leaf (context 1) t; is_tree = rw (base_text t a) refl; tags = refl })
base_subtree (dns_base t) r a s = subtree_of (DnsName t) (record { tree = leaf (context 2) t; is_tree = rw (base_text t a) refl; tags = refl })
base_subtree (directory_base es) r a s =
    let n = name_tree es r s in
    subtree_of (DirectoryName (name_value es))
    (record { tree = node (context 4) (row (n.tree ∷ [])); is_tree = rw n.is_tree refl; tags = rw n.tags refl })
base_subtree (ip_base n) r a s =
    subtree_of (IpAddress (subnet_octets n)) (record { tree = leaf (context 7) (subnet_octets n); is_tree = refl; tags = refl })

-- what makes a subtree's tree
abbrev IsFineBase : Base → Type 0
IsFineBase b = ((has_base_types b ≡ true) × (list_all is_ascii (base_texts b) ≡ true)) × HasShortBase b

subtree_trees : (bs : List Base) → AllByRecursion IsFineBase bs → TreesOf general_subtree (map subtree_value bs)
subtree_trees bs h = each_tree general_subtree subtree_value IsFineBase (λ b f. base_subtree b f.0.0 f.0.1 f.1) bs h

some_subtrees : (b : Base) (bs : List Base) → subtrees (b ∷ bs) ≡ Some (map subtree_value (b ∷ bs))
some_subtrees b bs = rw (ne_eqb (length (b ∷ bs)) 0 (λ e. omega arith)) refl

both_lists : (ps qs : List Base) → TreesOf general_subtree (map subtree_value ps) → TreesOf general_subtree (map subtree_value qs)
    → TreeOf name_constraints_codec (record { permitted_subtrees = subtrees ps; excluded_subtrees = subtrees qs })
unfolding name_constraints_fields
both_lists [] [] h k = record { tree = node (universal 16) (row []); is_tree = refl; tags = refl }
both_lists (p ∷ ps) [] h k = record {
  tree = node (universal 16) (row (node (context 0) (row h.trees) ∷ []));
  is_tree = rw (some_subtrees p ps, le-leb 0 (length (map subtree_value (p ∷ ps))) (omega arith), h.are_trees) refl;
  tags = rw h.tags refl;
}
both_lists [] (q ∷ qs) h k = record {
  tree = node (universal 16) (row (node (context 1) (row k.trees) ∷ []));
  is_tree = rw (some_subtrees q qs, le-leb 0 (length (map subtree_value (q ∷ qs))) (omega arith), k.are_trees) refl;
  tags = rw k.tags refl;
}
both_lists (p ∷ ps) (q ∷ qs) h k = record {
  tree = node (universal 16) (row (node (context 0) (row h.trees) ∷ node (context 1) (row k.trees) ∷ []));
  is_tree = rw (
    some_subtrees p ps,
    some_subtrees q qs,
    le-leb 0 (length (map subtree_value (p ∷ ps))) (omega arith),
    le-leb 0 (length (map subtree_value (q ∷ qs))) (omega arith),
    h.are_trees,
    k.are_trees,
  ) refl;
  tags = rw (h.tags, k.tags) refl;
}

bases_tree : (ps qs : List Base) → AllByRecursion IsFineBase (ps ++ qs)
    → TreeOf name_constraints_codec (constraints_value (record { permitted = ps; excluded = qs }))
bases_tree ps qs h =
    let parts = each_of_both IsFineBase ps qs h in
    both_lists ps qs (subtree_trees ps parts.0) (subtree_trees qs parts.1)

name_constraints_tree : (c : Option Bases) → has_subtree_types c ≡ true → list_all is_ascii (constraint_texts c) ≡ true
    → AllByRecursion HasShortBase (all_bases c) → IfSome (name_constraints c) (TreeOf name_constraints_codec)
name_constraints_tree None r a s = tt
name_constraints_tree (Some c) r a s =
    let bs = all_bases (Some c) in
    let passed = both_hold (λ b. has_base_types b ≡ true) (λ b. list_all is_ascii (base_texts b) ≡ true) bs (each_passes has_base_types bs r)
    (each_passes (λ b. list_all is_ascii (base_texts b)) bs (each_ascii base_texts bs a)) in
    let tree = bases_tree c.permitted c.excluded
    (both_hold (λ b. (has_base_types b ≡ true) × (list_all is_ascii (base_texts b) ≡ true)) HasShortBase bs passed s) in
    elim (length c.permitted == 0 && length c.excluded == 0)
    as (λ b. IfSome (cond b None (Some (constraints_value c))) (TreeOf name_constraints_codec)) [
      | true ↦ tt
      | false ↦ tree
    ]

pub name_constraints_there : (c : Option Bases) → has_subtree_types c ≡ true → list_all is_ascii (constraint_texts c) ≡ true
    → AllByRecursion HasShortBase (all_bases c) → IfSome (name_constraints c) (HasShortTree name_constraints_codec) → HasRows (name_constraints_row c)
name_constraints_there c r a b s =
    tree_row (id_ce ce_name_constraints) true name_constraints_codec (name_constraints c) refl (name_constraints_tree c r a b) s

-- ---- distribution points

uri_tree : (text : List ℕ) → is_ascii text ≡ true → TreeOf general_name (Uri text)
uri_tree t a = record { tree = leaf (context 6) t; is_tree = rw (text_is t a) refl; tags = refl }

pub uri_trees : (texts : List (List ℕ)) → list_all is_ascii texts ≡ true → TreesOf general_name (map Uri texts)
uri_trees texts a = each_tree general_name Uri (λ text. is_ascii text ≡ true) uri_tree texts (each_passes is_ascii texts a)

point_tree : (p : List (List ℕ)) → list_all is_ascii p ≡ true → TreeOf distribution_point (point_value p)
unfolding distribution_point_fields
point_tree p a =
    let uris = uri_trees p a in
    record {
      tree = node (universal 16) (row (node (context 0) (row (node (context 0) (row uris.trees) ∷ [])) ∷ []));
      is_tree = rw (le-leb 0 (length (map Uri p)) (omega arith), uris.are_trees) refl;
      tags = rw uris.tags refl;
    }

crl_distribution_points_tree : (ps : List (List (List ℕ))) → list_all is_ascii (uri_texts ps) ≡ true
    → IfSome (crl_distribution_points ps) (TreeOf (sequence_of distribution_point 0 None refl))
crl_distribution_points_tree ps a =
    let parts = each_tree distribution_point point_value (λ p. list_all is_ascii p ≡ true) point_tree ps
    (each_passes (λ p. list_all is_ascii p) ps (each_ascii (λ p. p) ps a)) in
    some_list (map point_value) (TreeOf (sequence_of distribution_point 0 None refl)) ps
    (λ e. list_tree distribution_point (map point_value ps) parts)

pub crl_distribution_points_formed : (ps : List (List (List ℕ))) → list_all is_ascii (uri_texts ps) ≡ true
    → IfSome (crl_distribution_points ps) (HasTree (sequence_of distribution_point 0 None refl))
crl_distribution_points_formed ps a =
    has_tree_if (sequence_of distribution_point 0 None refl) (crl_distribution_points ps) (crl_distribution_points_tree ps a)

pub crl_distribution_points_there : (ps : List (List (List ℕ))) → list_all is_ascii (uri_texts ps) ≡ true
    → IfSome (crl_distribution_points ps) (HasShortTree (sequence_of distribution_point 0 None refl)) → HasRows (crl_distribution_points_row ps)
crl_distribution_points_there ps a s =
    tree_row (id_ce ce_crl_distribution_points) false (sequence_of distribution_point 0 None refl) (crl_distribution_points ps) refl
    (crl_distribution_points_tree ps a) s

-- ---- key identifiers

pub authority_key_tree : (id : List ℕ) → TreeOf authority_key_identifier (authority_key id)
unfolding authority_key_identifier_fields octet_contents
authority_key_tree id = record { tree = node (universal 16) (row (leaf (context 0) id ∷ [])); is_tree = refl; tags = refl }

octets_tree : (b : List ℕ) → TreeOf octet_string b
unfolding octet_contents
octets_tree b = record { tree = leaf (universal 4) b; is_tree = refl; tags = refl }

authority_key_tree_if : (asked : Bool) (id : List ℕ) → IfSome (authority_key_if asked id) (TreeOf authority_key_identifier)
authority_key_tree_if true id = authority_key_tree id
authority_key_tree_if false id = tt

pub authority_key_formed : (asked : Bool) (id : List ℕ) → IfSome (authority_key_if asked id) (HasTree authority_key_identifier)
authority_key_formed asked id = has_tree_if authority_key_identifier (authority_key_if asked id) (authority_key_tree_if asked id)

pub authority_key_there : (asked : Bool) (id : List ℕ) → IfSome (authority_key_if asked id) (HasShortTree authority_key_identifier)
    → HasRows (authority_key_row asked id)
authority_key_there asked id s =
    tree_row (id_ce ce_authority_key_identifier) false authority_key_identifier (authority_key_if asked id) refl (authority_key_tree_if asked id) s

subject_key_tree_if : (is_ca : IsCa) (id : List ℕ) → IfSome (subject_key_if is_ca id) (TreeOf octet_string)
subject_key_tree_if NoCa id = tt
subject_key_tree_if ExplicitNoCa id = octets_tree id
subject_key_tree_if (Ca c) id = octets_tree id

pub subject_key_formed : (is_ca : IsCa) (id : List ℕ) → IfSome (subject_key_if is_ca id) (HasTree octet_string)
subject_key_formed is_ca id = has_tree_if octet_string (subject_key_if is_ca id) (subject_key_tree_if is_ca id)

pub subject_key_there : (is_ca : IsCa) (id : List ℕ) → IfSome (subject_key_if is_ca id) (HasShortTree octet_string)
    → HasRows (subject_key_row is_ca id)
subject_key_there is_ca id s =
    tree_row (id_ce ce_subject_key_identifier) false octet_string (subject_key_if is_ca id) refl (subject_key_tree_if is_ca id) s

-- ---- numbers without a sign

pub number_tree : (bytes : List ℕ) → TreeOf integer (unsigned bytes)
unfolding integer_contents
number_tree bytes = record { tree = leaf (universal 2) (unsigned bytes); is_tree = rw (unsigned_shortest bytes) refl; tags = refl }

-- ---- basic constraints

signed_count : (a : ℕ) → length (with_sign (a ∷ [])) ≤ 2
signed_count a = elim (nat_lt a 128) as (λ b. length (cond b (a ∷ []) (0 ∷ a ∷ [])) ≤ 2) [ true ↦ omega arith | false ↦ omega arith ]

byte_count : (n : ℕ) → length (unsigned (n ∷ [])) ≤ 2
byte_count n = elim (n == 0) as (λ b. length (with_sign (cond b [] (n ∷ []))) ≤ 2) [ true ↦ omega arith | false ↦ signed_count n ]

-- what is true, and a number of two bytes at most, are few
few : (b : List ℕ) → length b ≤ 2
    → length (bytes (node (universal 16) (row (leaf (universal 1) (255 ∷ []) ∷ leaf (universal 2) b ∷ [])))) < 2 ^ 64
few b l =
    let one = bytes (leaf (universal 1) (255 ∷ [])) in
    let other = bytes (leaf (universal 2) b) in
    omega (
      arith,
      element_octets_count (made (universal 16) true (one ++ (other ++ []))),
      length-append one (other ++ []),
      length-append other [],
      element_octets_count (made (universal 1) false (255 ∷ [])),
      element_octets_count (made (universal 2) false b),
    )

basic_constraints_tree : (is_ca : IsCa) → IfSome (constraints is_ca) (ShortTreeOf basic_constraints)
unfolding basic_constraints_fields unless_default boolean_contents integer_contents element_octets identifier_octets length_octets
basic_constraints_tree NoCa = tt
basic_constraints_tree ExplicitNoCa =
    record { of_value = record { tree = node (universal 16) (row []); is_tree = refl; tags = refl }; short = omega arith }
basic_constraints_tree (Ca Unconstrained) = record {
  of_value = record { tree = node (universal 16) (row (leaf (universal 1) (255 ∷ []) ∷ [])); is_tree = refl; tags = refl };
  short = omega arith;
}
basic_constraints_tree (Ca (Constrained n)) = record {
  of_value = record {
    tree = node (universal 16) (row (leaf (universal 1) (255 ∷ []) ∷ leaf (universal 2) (unsigned (n ∷ [])) ∷ []));
    is_tree = rw (unsigned_shortest (n ∷ [])) refl;
    tags = refl;
  };
  short = few (unsigned (n ∷ [])) (byte_count n);
}

pub basic_constraints_formed : (is_ca : IsCa) → IfSome (constraints is_ca) (HasTree basic_constraints)
basic_constraints_formed is_ca =
    has_tree_if basic_constraints (constraints is_ca) (of_short_if basic_constraints (constraints is_ca) (basic_constraints_tree is_ca))

pub basic_constraints_there : (is_ca : IsCa) → HasRows (basic_constraints_row is_ca)
basic_constraints_there is_ca = row_of_value (id_ce ce_basic_constraints) true basic_constraints (constraints is_ca) refl (basic_constraints_tree is_ca)

-- ---- key usage

bits_tree : (v : Bits) → are_bits v ≡ true → length v.bytes ≤ 2 → ShortTreeOf bit_string v
unfolding bit_string_contents
bits_tree v h l = short_leaf bit_string v (universal 3) (v.unused ∷ v.bytes) (rw h refl) refl (omega arith)

bits_there : (us : List KeyUsagePurpose) → (length us == 0) ≡ false → ShortTreeOf bit_string (named_bits us)
bits_there us h =
    elim (list_any (λ u. bit_of u == 8) us) as (λ b. list_any (λ u. bit_of u == 8) us ≡ b → ShortTreeOf bit_string (cond b
    (bits 7 (first_byte us ∷ 128 ∷ [])) (bits (trailing_zeros w8 (first_byte us)) (first_byte us ∷ [])))) [
      | true ↦ λ e. bits_tree (bits 7 (first_byte us ∷ 128 ∷ [])) refl (omega arith)
      | false ↦ λ e. bits_tree (bits (trailing_zeros w8 (first_byte us)) (first_byte us ∷ [])) (one_byte us (first_byte us) refl h e) (omega arith)
    ] refl

key_usage_tree : (us : List KeyUsagePurpose) → IfSome (key_usage us) (ShortTreeOf bit_string)
key_usage_tree us = some_list named_bits (ShortTreeOf bit_string) us (bits_there us)

pub key_usage_formed : (us : List KeyUsagePurpose) → IfSome (key_usage us) (HasTree bit_string)
key_usage_formed us = has_tree_if bit_string (key_usage us) (of_short_if bit_string (key_usage us) (key_usage_tree us))

pub key_usage_there : (us : List KeyUsagePurpose) → HasRows (key_usage_row us)
key_usage_there us = row_of_value (id_ce ce_key_usage) true bit_string (key_usage us) refl (key_usage_tree us)
