-- The second alternative, taken apart no further.
use Rattle.std.proofs.Common.{◌≡◌, false, refl}
use Rattle.der_tree.specs.Grammar.{either, explicitly}
use Rattle.der_tree.specs.Tags.{context, has}
use Rattle.der_tree.specs.Windows.{shown}
use Rattle.pkix_cert.specs.Certificates.{certificate, tbs_certificate}
use Rattle.pkix_trust.specs.Anchors.{trust_anchor_info, trust_anchor_choice_parts, trust_anchor_choice_of, trust_anchor_choice_there, trust_anchor_choice_back}
use Rattle.pkix_trust.proofs.Choosing.{first_of, rest_of, chosen_of, within_starts}
use Rattle.pkix_trust.proofs.anchor.TrustAnchorChoiceDerType.from_tree.Goals as goal

pub returns-in_ok-from_explicit : goal.returns-in_ok-from_explicit
returns-in_ok-from_explicit c =
    let t = c.tag-tag.ensures in
    let a = c.starts.ensures in
    let b = c.if-starts.false in
    let s = shown c.args.window in
    let v = c.in_ok-from_explicit.field-0 in
    let read = c.in_ok-from_explicit.ensures in
    let x = explicitly (context 1) tbs_certificate in
    let y = explicitly (context 2) trust_anchor_info in
    let out : has certificate.starts s.tag ≡ false = cc in
    chosen_of (either certificate (either x y refl) refl) trust_anchor_choice_parts trust_anchor_choice_of trust_anchor_choice_there
    trust_anchor_choice_back s _
    (rest_of certificate (either x y refl) refl s _ out (first_of x y refl s v (within_starts (context 1) tbs_certificate s v read) read))
