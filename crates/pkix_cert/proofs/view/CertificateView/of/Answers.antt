use Rattle.std.specs.Prelude.{◌≡◌, ◌+◌, List, Some, drop, map, refl}
use Rattle.std.specs.List.{slice_get}
use Rattle.std.specs.Option.{option_map}
use Rattle.std.proofs.Common.{ap, arith, ◌∙◌}
use Rattle.der_tree.specs.Element.{Element}
use Rattle.der_tree.specs.SetOf.{octets_in}
use Rattle.der_tree.specs.Tags.{context}
use Rattle.der_tree.specs.Windows.{shown}
use Rattle.pkix_cert.specs.Unread.{Unread, front}
use Rattle.pkix_cert.specs.Views.{extension_list, extension_parts, inside, octets_at, parts_of, tagged, version_count}
use Rattle.pkix_cert.proofs.Viewing.{behind_more, stands_behind}
use Rattle.pkix_cert.proofs.view.CertificateView.of.Goals as goal

pub returns : goal.returns
unfolding parts_of
returns c =
    let three = inside (Some (shown c.args.certificate)) in
    let ss = inside (slice_get three 0) in
    let n = version_count ss in
    let outer : c.of-three.result.elements ≡ three = ap (λ (u : Unread). u.elements) c.of-three.ensures ∙ ap front c.content.ensures in
    let signed : option_map shown c.take-tbs.result ≡ slice_get three 0 = c.take-tbs.ensures.element ∙ ap (λ (x : List Element). slice_get x 0) outer in
    let inner : c.inside-parts.result.elements ≡ ss = c.inside-parts.ensures ∙ ap inside signed in
    let q0 : c.behind_version-fields.result.elements ≡ drop n ss =
    c.behind_version-fields.ensures ∙ ap (λ (x : List Element). drop (version_count x) x) inner in
    let q1 : c.next_octets.new.elements.elements ≡ drop (n + 1) ss = behind_more _ _ ss n (n + 1) (omega arith) c.next_octets.ensures.rest q0 in
    let q2 : c.next_octets-2.new.elements.elements ≡ drop (n + 2) ss = behind_more _ _ ss (n + 1) (n + 2) (omega arith) c.next_octets-2.ensures.rest q1 in
    let q3 : c.next_octets-3.new.elements.elements ≡ drop (n + 3) ss = behind_more _ _ ss (n + 2) (n + 3) (omega arith) c.next_octets-3.ensures.rest q2 in
    let q4 : c.next_octets-4.new.elements.elements ≡ drop (n + 4) ss = behind_more _ _ ss (n + 3) (n + 4) (omega arith) c.next_octets-4.ensures.rest q3 in
    let q5 : c.next_octets-5.new.elements.elements ≡ drop (n + 5) ss = behind_more _ _ ss (n + 4) (n + 5) (omega arith) c.next_octets-5.ensures.rest q4 in
    let e1 : c.next_octets.result.now ≡ octets_at n ss = stands_behind _ ss n _ c.next_octets.ensures.octets q0 in
    let e2 : c.next_octets-2.result.now ≡ octets_at (n + 1) ss = stands_behind _ ss (n + 1) _ c.next_octets-2.ensures.octets q1 in
    let e3 : c.next_octets-3.result.now ≡ octets_at (n + 2) ss = stands_behind _ ss (n + 2) _ c.next_octets-3.ensures.octets q2 in
    let e4 : c.next_octets-4.result.now ≡ octets_at (n + 3) ss = stands_behind _ ss (n + 3) _ c.next_octets-4.ensures.octets q3 in
    let e5 : c.next_octets-5.result.now ≡ octets_at (n + 4) ss = stands_behind _ ss (n + 4) _ c.next_octets-5.ensures.octets q4 in
    let e6 : c.next_octets-6.result.now ≡ octets_at (n + 5) ss = stands_behind _ ss (n + 5) _ c.next_octets-6.ensures.octets q5 in
    let t1 : c.take-tbs.new.self.elements ≡ drop 1 three = c.take-tbs.ensures.rest ∙ ap (drop 1) outer in
    let t2 : c.next_octets-7.new.elements.elements ≡ drop 2 three = behind_more _ _ three 1 2 refl c.next_octets-7.ensures.rest t1 in
    let e7 : c.next_octets-7.result.now ≡ octets_at 1 three = stands_behind _ three 1 _ c.next_octets-7.ensures.octets t1 in
    let e8 : c.next_octets-8.result.now ≡ octets_at 2 three = stands_behind _ three 2 _ c.next_octets-8.ensures.octets t2 in
    let third : option_map shown c.tagged-third.result ≡ tagged (context 3) ss = c.tagged-third.ensures ∙ ap (tagged (context 3)) inner in
    let list : option_map shown c.take.result ≡ extension_list ss =
    c.take.ensures.element ∙ ap (λ (x : List Element). slice_get x 0) (c.inside.ensures ∙ ap inside third) in
    λ i. record {
      whole = (c.whole.ensures ∙ c.requires) i;
      after = c.args.rest.now;
      tbs = (c.octets.ensures ∙ ap octets_in signed) i;
      serial_number = e1 i;
      tbs_signature = e2 i;
      issuer = e3 i;
      validity = e4 i;
      subject = e5 i;
      key_info = e6 i;
      signature_algorithm = e7 i;
      signature = e8 i;
      extensions = map extension_parts (inside (list i));
    }
