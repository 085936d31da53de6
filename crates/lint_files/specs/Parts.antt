-- The parts of a request, a CRL and an attribute certificate, as they are in its octets.
use Rattle.std.specs.Prelude.{List, None, Option, Some, cond, [], ◌∷◌, ℕ}
use Rattle.std.specs.List.{slice_get}
use Rattle.asn1_core.specs.Binds.{◌>>=◌}
use Rattle.der_tree.specs.Element.{Element, children_of, element_octets, one_element}
use Rattle.der_tree.specs.Tags.{context, same_tag, universal}
use Rattle.lint_files.specs.PartViews.{PartsView}

-- the element at a place within another, counted from 0
abbrev pub child : ℕ → Element → Option Element
child place s = children_of s >>= λ ss. slice_get ss place

-- what is signed comes first in a certificate, a request, a CRL and an attribute certificate: its octets
unfoldable pub signed_part : List ℕ → Option (List ℕ)
signed_part octets = one_element octets >>= child 0 >>= λ s. Some (element_octets s)

-- what comes after the version, where that is written, which is an INTEGER (RFC 5280, 5.1)
abbrev pub without_version : List Element → List Element
without_version [] = []
without_version (s ∷ ss) = cond (same_tag s.tag (universal 2)) ss (s ∷ ss)

-- of a CRL: what is signed and the algorithm; within the first of them, after the version, the algorithm and the issuer (RFC 5280, 5.1)
unfoldable pub list_parts : List ℕ → Option PartsView
list_parts octets = do
  s ← one_element octets
  signed ← child 0 s
  algorithm ← child 1 s
  fields ← children_of signed
  inner ← slice_get (without_version fields) 0
  issuer ← slice_get (without_version fields) 1
  Some (record {
    signed = element_octets signed;
    algorithm = element_octets algorithm;
    inner = element_octets inner;
    issuer = Some (element_octets issuer);
  })

-- the octets of what is in a directory name (RFC 5280, 4.2.1.6)
abbrev pub directory_name : Element → Option (List ℕ)
directory_name s = cond (same_tag s.tag (context 4)) (child 0 s >>= λ d. Some (element_octets d)) None

-- of the issuer of an attribute certificate: the first of its names, where that is a directory name (RFC 5755, 4.2.3)
unfoldable pub issuer_name : Element → Option (List ℕ)
issuer_name issuer = child 0 issuer >>= child 0 >>= directory_name

-- of an attribute certificate: what is signed and the algorithm; within the first of them the issuer is third and the algorithm fourth
-- (RFC 5755, 4.1)
unfoldable pub attribute_parts : List ℕ → Option PartsView
attribute_parts octets = do
  s ← one_element octets
  signed ← child 0 s
  algorithm ← child 1 s
  issuer ← child 2 signed
  inner ← child 3 signed
  Some (record {
    signed = element_octets signed;
    algorithm = element_octets algorithm;
    inner = element_octets inner;
    issuer = issuer_name issuer;
  })
