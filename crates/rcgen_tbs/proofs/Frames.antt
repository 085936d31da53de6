-- The octets of a list with each entry as its octets are those of the list.
use Rattle.std.proofs.Common.{◌≡◌, ◌∙◌, ap, append-nil, arith, get_or, le-leb, refl, sym, subst}
use Rattle.std.specs.Prelude.{Bool, Err, IfErr, List, None, Ok, Option, Result, Some, false, true, length, map, take, ℕ, [], ◌&&◌, ◌+◌, ◌++◌, ◌<◌, ◌∷◌}
use Rattle.std.specs.List.{AllZip, list_all}
use Rattle.std.proofs.lemmas.Slice.Zip.{all_zipped_more}
use Rattle.asn1_core.specs.Binds.{and_true, true_and, ◌>>=◌}
use Rattle.asn1_core.specs.Tags.{universal}
use Rattle.der_tree.proofs.Putting.{one_more}
use Rattle.der_tree.proofs.HasTreeLaws.{fault_is_memory}
use Rattle.der_tree.specs.Answers.{Encodes}
use Rattle.der_tree.specs.AnyElement.{is_one}
use Rattle.der_tree.specs.Codec.{Codec}
use Rattle.der_tree.specs.Default.{if_not_empty, unless_empty}
use Rattle.der_tree.specs.Element.{Element, one_element}
use Rattle.der_tree.specs.Form.{IsDerOf}
use Rattle.der_tree.specs.Grammar.{any, explicitly, sequence_of}
use Rattle.der_tree.specs.HasTree.{HasTree}
use Rattle.der_tree.specs.Optional.{if_there, optional_put}
use Rattle.der_tree.specs.Fields.{required_put}
use Rattle.der_tree.specs.Results.{ok_then}
use Rattle.der_tree.specs.SequenceOf.{each_put}
use Rattle.der_tree.specs.Sequence.{node_of}
use Rattle.der_tree.specs.Tags.{context}
use Rattle.der_tree.specs.Tree.{PlainTree, leaf, node, raw, row}
use Rattle.der_tree.specs.TreeElement.{checked, element_of, elements_of}
use Rattle.der_tree.specs.declared.error.EncodeError.{EncodeError}
use Rattle.der_tree.specs.declared.error.EncodeError.TheVariants.{OutOfMemory}
use Rattle.der_tree.specs.declared.tree.Tree.{Tree}
use Rattle.der_tree.specs.laws.Element.{one_element_again}
use Rattle.der_tree.specs.laws.Results.{ok_is, ok_then_is, ok_then_ok}
use Rattle.der_tree.specs.laws.TreeElement.{element_of_encodable}
use Rattle.pkix_cert.specs.Algorithms.{algorithm_identifier}
use Rattle.pkix_cert.specs.Extensions.{extensions}
use Rattle.pkix_cert.specs.Revocations.{revoked_certificate, tbs_cert_list, tbs_cert_list_fields}
use Rattle.pkix_cert.specs.Times.{time}
use Rattle.pkix_cert.specs.Versions.{version}
use Rattle.pkix_cert.specs.declared.revocation.RevokedCertificate.{RevokedCertificate}
use Rattle.pkix_cert.specs.declared.revocation.TbsCertList.{TbsCertList}
use Rattle.pkix_name.specs.Names.{name}
use Rattle.rcgen_certificate.specs.Issuers.{IssuerView}
use Rattle.rcgen_issue.proofs.Loops.{zip_more}
use Rattle.rcgen_issue.specs.CrlView.{CrlView, RevokedView, revoked_view}
use Rattle.rcgen_issue.specs.Entries.{IsEntry}
use Rattle.rcgen_issue.specs.Lists.{IsCrlToBeSigned, without_entries}
use Rattle.rcgen_issue.specs.declared.crl.RevokedCertParams.{RevokedCertParams}
use Rattle.rcgen_tbs.specs.Frames.{AreEntries, IsWritten, framed, framed_fields, framed_value, has_none, is_raw_element, octets_in}
use Rattle.rcgen_tbs.specs.Messages.{IsCrlMessage}

-- ---- trees of which the elements are the same

-- where p gives trees, q gives some of which the elements are the same
abbrev Same : Result (List PlainTree) EncodeError → Result (List PlainTree) EncodeError → Type 0
Same p q = (x : List PlainTree) → p ≡ Ok x → (y : List PlainTree) × (q ≡ Ok y) × (elements_of y ≡ elements_of x)

elements_behind : (x y z : List PlainTree) → elements_of y ≡ elements_of z → elements_of (x ++ y) ≡ elements_of (x ++ z)
elements_behind [] y z e = e
elements_behind (t ∷ x) y z e =
    ap (λ (o : Option (List Element)). element_of t >>= λ s. o >>= λ ss. Some (s ∷ ss)) (elements_behind x y z e)

first_same : (t u : PlainTree) (ts us : List PlainTree) → element_of t ≡ element_of u → elements_of ts ≡ elements_of us
    → elements_of (t ∷ ts) ≡ elements_of (u ∷ us)
first_same t u ts us e f = rw (e, f) refl

node_same : (ts us : List PlainTree) → elements_of ts ≡ elements_of us → element_of (node (universal 16) (row ts)) ≡ element_of (node (universal 16) (row us))
node_same ts us e = rw e refl

behind_same : (p q r : Result (List PlainTree) EncodeError) → Same q r → Same (one_more p q) (one_more p r)
behind_same p q r same x e =
    let a = ok_then_ok p (λ y. ok_then q (λ z. Ok (y ++ z))) x e in
    let b = ok_then_ok q (λ z. Ok (a.0 ++ z)) x a.2 in
    let c = same b.0 b.1 in (
      a.0 ++ c.0,
      ok_then_is p (λ y. ok_then r (λ z. Ok (y ++ z))) a.0 (Ok (a.0 ++ c.0)) a.1 (ok_then_is r (λ z. Ok (a.0 ++ z)) c.0 (Ok (a.0 ++ c.0)) c.1 refl),
      elements_behind a.0 c.0 b.0 c.2 ∙ ap elements_of (ok_is (a.0 ++ b.0) x b.2),
    )

-- ---- entries

written_same : (e : RevokedCertificate) (b : List ℕ) → (h : IsDerOf revoked_certificate e b) → one_element b ≡ Some h.1
written_same e b h = ap one_element h.4 ∙ one_element_again h.1 (element_of_encodable h.0 h.1 h.3)

abbrev AreWritten : List RevokedCertificate → List PlainTree → Type 0
AreWritten es ts = AllZip IsWritten es ts

record EachPut (es : List RevokedCertificate) (ts : List PlainTree) : Type 0 where
  octets : each_put any (map octets_in ts) ≡ Ok ts
  trees : List PlainTree
  put : each_put revoked_certificate es ≡ Ok trees
  same : elements_of trees ≡ elements_of ts

put_octets : (b : List ℕ) (bs : List (List ℕ)) (ts : List PlainTree) → is_one b ≡ true → each_put any bs ≡ Ok ts → each_put any (b ∷ bs) ≡ Ok (raw b ∷ ts)
put_octets b bs ts one e = rw (one, e) refl

put_entry : (e : RevokedCertificate) (es : List RevokedCertificate) (u : PlainTree) (us : List PlainTree) → revoked_certificate.tree_of e ≡ Ok u
    → each_put revoked_certificate es ≡ Ok us → each_put revoked_certificate (e ∷ es) ≡ Ok (u ∷ us)
put_entry e es u us h k =
    ok_then_is (revoked_certificate.tree_of e) (λ t. ok_then (each_put revoked_certificate es) (λ ts. Ok (t ∷ ts))) u (Ok (u ∷ us)) h
    (ok_then_is (each_put revoked_certificate es) (λ ts. Ok (u ∷ ts)) us (Ok (u ∷ us)) k refl)

one_put : (e : RevokedCertificate) (es : List RevokedCertificate) (b : List ℕ) (ts : List PlainTree) → IsDerOf revoked_certificate e b → EachPut es ts
    → EachPut (e ∷ es) (raw b ∷ ts)
one_put e es b ts h more =
    let one = written_same e b h in
    record {
      octets = put_octets b (map octets_in ts) ts (rw one refl) more.octets;
      trees = h.0 ∷ more.trees;
      put = put_entry e es h.0 more.trees h.2 more.put;
      same = first_same h.0 (raw b) more.trees ts (h.3 ∙ sym one) more.same;
    }

each_is_put : (es : List RevokedCertificate) (ts : List PlainTree) → AreWritten es ts → EachPut es ts
each_is_put [] [] h = record { octets = refl; trees = []; put = refl; same = refl }
each_is_put [] (t ∷ ts) h = absurd h
each_is_put (e ∷ es) [] h = absurd h
each_is_put (e ∷ es) (t ∷ ts) h =
    subst (λ (x : PlainTree). EachPut (e ∷ es) (x ∷ ts)) (sym h.0.1) (one_put e es h.0.0 ts h.0.2 (each_is_put es ts h.1))

are_raw : (es : List RevokedCertificate) (ts : List PlainTree) → AreWritten es ts → list_all is_raw_element ts ≡ true
are_raw [] [] h = refl
are_raw [] (t ∷ ts) h = absurd h
are_raw (e ∷ es) [] h = absurd h
are_raw (e ∷ es) (t ∷ ts) h =
    let one : is_raw_element (raw h.0.0) ≡ true = rw (written_same e h.0.0 h.0.2) refl in
    true_and (is_raw_element t) (list_all is_raw_element ts) (subst (λ (x : PlainTree). is_raw_element x ≡ true) (sym h.0.1) one) (are_raw es ts h.1)

pub entries_are_raw : (vs : List RevokedView) (ts : List PlainTree) → AreEntries vs ts → list_all is_raw_element ts ≡ true
entries_are_raw vs ts are = are_raw are.entries ts are.written

-- ---- one entry more

pub no_entries : (ts : List PlainTree) → ts ≡ [] → AreEntries [] ts
no_entries ts e = subst (λ (x : List PlainTree). AreEntries [] x) (sym e) (record { entries = []; each = tt; written = tt })

pub one_entry : (xs : List RevokedCertParams) (i : ℕ) (x : RevokedCertParams) (old new : List PlainTree) (e : RevokedCertificate) (b : List ℕ) → i < length xs
    → x ≡ get_or xs i x → AreEntries (map revoked_view (take i xs)) old → IsEntry (revoked_view x) e → IsDerOf revoked_certificate e b
    → new ≡ old ++ raw b ∷ [] → AreEntries (map revoked_view (take (i + 1) xs)) new
one_entry xs i x old new e b l g are is form put = record {
  entries = are.entries ++ e ∷ [];
  each = zip_more revoked_view IsEntry xs i x are.entries (are.entries ++ e ∷ []) e l g are.each is refl;
  written = subst (λ (ts : List PlainTree). AreWritten (are.entries ++ e ∷ []) ts) (sym put)
      (all_zipped_more IsWritten are.entries old e (raw b) are.written (b, refl, form));
}

-- ---- the field of the entries

abbrev octets_put : List (List ℕ) → Result (List PlainTree) EncodeError
octets_put bs = optional_put (sequence_of any 0 None refl) (unless_empty bs)

abbrev entries_put : List RevokedCertificate → Result (List PlainTree) EncodeError
entries_put es = optional_put (sequence_of revoked_certificate 0 None refl) (unless_empty es)

some_put : {A : Type 0} (c : Codec A) (v : A) (vs : List A) (ts : List PlainTree) → each_put c (v ∷ vs) ≡ Ok ts
    → optional_put (sequence_of c 0 None refl) (unless_empty (v ∷ vs)) ≡ Ok (node (universal 16) (row ts) ∷ [])
unfolding unless_empty
some_put c v vs ts e = rw (le-leb 0 (length (v ∷ vs)) (omega arith), e) refl

raws_put : (ts : List PlainTree) → list_all is_raw_element ts ≡ true → each_put any (map octets_in ts) ≡ Ok ts
raws_put [] h = refl
raws_put (leaf g b ∷ ts) h = absurd cc
raws_put (node g k ∷ ts) h = absurd cc
raws_put (raw b ∷ ts) h = let a = and_true (is_one b) (list_all is_raw_element ts) h in put_octets b (map octets_in ts) ts a.0 (raws_put ts a.1)

-- what is put after old trees
pub none_behind : (old ts : List PlainTree) → has_none ts ≡ true → ok_then (octets_put (map octets_in ts)) (λ x. Ok (old ++ x)) ≡ Ok old
unfolding unless_empty
none_behind old [] h = ap (λ (x : List PlainTree). let r : Result (List PlainTree) EncodeError = Ok x in r) (append-nil old)
none_behind old (t ∷ ts) h = absurd cc

pub some_behind : (old new ts : List PlainTree) → has_none ts ≡ false → list_all is_raw_element ts ≡ true
    → new ≡ old ++ node (universal 16) (row ts) ∷ [] → ok_then (octets_put (map octets_in ts)) (λ x. Ok (old ++ x)) ≡ Ok new
some_behind old new [] h k e = absurd cc
some_behind old new (t ∷ ts) h k e =
    ok_then_is (octets_put (map octets_in (t ∷ ts))) (λ x. Ok (old ++ x)) (node (universal 16) (row (t ∷ ts)) ∷ []) (Ok new)
    (some_put any (octets_in t) (map octets_in ts) (t ∷ ts) (raws_put (t ∷ ts) k))
    (ap (λ (x : List PlainTree). let r : Result (List PlainTree) EncodeError = Ok x in r) (sym e))

-- where one gives the node of ts, the other gives that of us
nodes_same : (p q r : Result (List PlainTree) EncodeError) (ts us : List PlainTree) → p ≡ Ok (node (universal 16) (row ts) ∷ [])
    → q ≡ Ok (node (universal 16) (row us) ∷ []) → elements_of us ≡ elements_of ts → Same (one_more p r) (one_more q r)
nodes_same p q r ts us e f same x h =
    let g = universal 16 in
    let a : ok_then r (λ z. Ok (node g (row ts) ∷ z)) ≡ Ok x = ap (λ (o : Result (List PlainTree) EncodeError). one_more o r) (sym e) ∙ h in
    let b = ok_then_ok r (λ z. Ok (node g (row ts) ∷ z)) x a in (
      node g (row us) ∷ b.0,
      ap (λ (o : Result (List PlainTree) EncodeError). one_more o r) f ∙ ok_then_is r (λ z. Ok (node g (row us) ∷ z)) b.0 (Ok (node g (row us) ∷ b.0)) b.1 refl,
      first_same (node g (row us)) (node g (row ts)) b.0 b.0 (node_same us ts same) refl ∙ ap elements_of (ok_is (node g (row ts) ∷ b.0) x b.2),
    )

entries_same : (es : List RevokedCertificate) (ts : List PlainTree) (r : Result (List PlainTree) EncodeError) → AreWritten es ts
    → Same (one_more (octets_put (map octets_in ts)) r) (one_more (entries_put es) r)
unfolding unless_empty
entries_same [] [] r h = λ x e. (x, e, refl)
entries_same [] (t ∷ ts) r h = absurd h
entries_same (e ∷ es) [] r h = absurd h
entries_same (e ∷ es) (t ∷ ts) r h =
    let put = each_is_put (e ∷ es) (t ∷ ts) h in
    nodes_same (octets_put (map octets_in (t ∷ ts))) (entries_put (e ∷ es)) r (t ∷ ts) put.trees
    (some_put any (octets_in t) (map octets_in ts) (t ∷ ts) put.octets) (some_put revoked_certificate e es put.trees put.put) put.same

-- ---- the list

-- the octets of entries are elements
octets_are_one : (ts : List PlainTree) → list_all is_raw_element ts ≡ true → list_all (any.has_tree) (map octets_in ts) ≡ true
octets_are_one [] h = refl
octets_are_one (leaf g b ∷ ts) h = absurd cc
octets_are_one (node g k ∷ ts) h = absurd cc
octets_are_one (raw b ∷ ts) h =
    let a = and_true (is_one b) (list_all is_raw_element ts) h in true_and (is_one b) (list_all (any.has_tree) (map octets_in ts)) a.0 (octets_are_one ts a.1)

octets_have : (bs : List (List ℕ)) → list_all (any.has_tree) bs ≡ true → if_not_empty (sequence_of any 0 None refl) bs ≡ true
octets_have [] h = refl
octets_have (b ∷ bs) h = rw (le-leb 0 (length (b ∷ bs)) (omega arith), h) refl

in_sixth : (a b c d e f g rest : Bool) → g ≡ true → (a && (b && (c && (d && (e && (f && rest)))))) ≡ true
    → (a && (b && (c && (d && (e && (g && rest)))))) ≡ true
in_sixth true true true true true f g rest p k = true_and g rest p (and_true f rest k).1
in_sixth true true true true false f g rest p k = absurd cc
in_sixth true true true false e f g rest p k = absurd cc
in_sixth true true false d e f g rest p k = absurd cc
in_sixth true false c d e f g rest p k = absurd cc
in_sixth false b c d e f g rest p k = absurd cc

framed_formed : (t : TbsCertList) (ts : List PlainTree) → HasTree tbs_cert_list t → list_all is_raw_element ts ≡ true
    → HasTree framed (framed_value t (map octets_in ts))
unfolding framed_fields tbs_cert_list_fields
framed_formed t ts h k =
    in_sixth (if_there version t.version) (algorithm_identifier.has_tree t.signature) (name.has_tree t.issuer) (time.has_tree t.this_update)
    (if_there time t.next_update) (if_not_empty (sequence_of revoked_certificate 0 None refl) t.revoked_certificates)
    (if_not_empty (sequence_of any 0 None refl) (map octets_in ts)) (if_there (explicitly (context 0) extensions) t.crl_extensions)
    (octets_have (map octets_in ts) (octets_are_one ts k)) h

pub only_memory : (t : TbsCertList) (ts : List PlainTree) (r : Result Tree EncodeError) → HasTree tbs_cert_list t → list_all is_raw_element ts ≡ true
    → Encodes r (framed.tree_of (framed_value t (map octets_in ts))) → IfErr r (λ e. e ≡ OutOfMemory)
only_memory t ts (Ok x) h k f = tt
only_memory t ts (Err e) h k f = fault_is_memory framed (framed_value t (map octets_in ts)) e (framed_formed t ts h k) f

abbrev with_entries : TbsCertList → List RevokedCertificate → TbsCertList
with_entries t es = record t { revoked_certificates = es }

fields_same : (t : TbsCertList) (es : List RevokedCertificate) (ts : List PlainTree) → AreWritten es ts
    → Same (framed_fields.fields.put (framed_value t (map octets_in ts))) (tbs_cert_list_fields.fields.put (with_entries t es))
unfolding framed_fields tbs_cert_list_fields
fields_same t es ts h =
    behind_same (optional_put version t.version) _ _ (
    behind_same (required_put algorithm_identifier t.signature) _ _ (
    behind_same (required_put name t.issuer) _ _ (
    behind_same (required_put time t.this_update) _ _ (
    behind_same (optional_put time t.next_update) _ _ (
    entries_same es ts (optional_put (explicitly (context 0) extensions) t.crl_extensions) h)))))

pub list_form : (t : TbsCertList) (es : List RevokedCertificate) (ts : List PlainTree) (m : List ℕ) → AreWritten es ts
    → IsDerOf framed (framed_value t (map octets_in ts)) m → IsDerOf tbs_cert_list (with_entries t es) m
list_form t es ts m h k =
    let put = framed_fields.fields.put (framed_value t (map octets_in ts)) in
    let all = tbs_cert_list_fields.fields.put (with_entries t es) in
    let a = ok_then_ok put (λ x. Ok (node (universal 16) (row x))) k.0 k.2 in
    let b = fields_same t es ts h a.0 a.1 in (
      node (universal 16) (row b.0),
      k.1,
      ok_then_is all (λ x. Ok (node (universal 16) (row x))) b.0 (Ok (node (universal 16) (row b.0))) b.1 refl,
      node_same b.0 a.0 b.2 ∙ ap element_of (ok_is (node (universal 16) (row a.0)) k.0 a.2) ∙ k.3,
      k.4,
    )

pub list_message : (params : CrlView) (issuer : IssuerView) (t : TbsCertList) (ts : List PlainTree) (m : List ℕ)
    → IsCrlToBeSigned (without_entries params) issuer t → AreEntries params.revoked_certs ts
    → IsDerOf framed (framed_value t (map octets_in ts)) m → IsCrlMessage params issuer m
list_message params issuer t ts m frame are form = (
  with_entries t are.entries,
  record {
    version = frame.version;
    signature = frame.signature;
    issuer_name = frame.issuer_name;
    this_update = frame.this_update;
    next_update = frame.next_update;
    entries = are.each;
    extensions = frame.extensions;
  },
  list_form t are.entries ts m are.written form,
)
