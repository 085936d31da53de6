-- Entries of a table, and what is left without one of them.
use Rattle.std.proofs.Common.{◌≡◌, ◌+◌, ◌==◌, false, ℕ, suc, List, [], ◌∷◌, ◌++◌, length, take, drop, get_or, Option, Some, None, Err, arith, Ordering, Less, Equal, Greater, cond, refl, ap, sym, ◌∙◌}
use Rattle.std.proofs.Common.{string_bytes, nat_cmp, is_eq}
use Rattle.std.proofs.lemmas.Iterator.Adapters.{position_from-zero}
use Rattle.std.specs.Cmp.Lexicographic.{slice_cmp}
use Rattle.std.specs.List.{position, position_from}
use Rattle.std.specs.Ordering.{match_ordering}
use Rattle.toml.specs.Data.{Data, Members, member, get_member}
use Rattle.toml.specs.View.{view}
use Rattle.toml_format.specs.ReaderView.{Entry, is_at, members}
use Rattle.toml_format.specs.TableReading.{without, no_more}
use Rattle.toml_format.specs.declared.reason.Reason.TheVariants.{UnknownKey}

-- the entry at a place, which is counted from n, and what is left without it
record Found (n place : ℕ) (es : List Entry) (value : Option Data) (left : Members) : Type 0 where
  index : ℕ
  counted : place ≡ n + index
  found : (d : Entry) → value ≡ Some (view (get_or es index d).1.now)
  rest : members (take index es ++ drop (suc index) es) ≡ left

here : (n place : ℕ) (e : Entry) (es : List Entry) → n ≡ place → Found n place (e ∷ es) (Some (view e.1.now)) (members es)
here n place e es same = record {
  index = 0;
  counted = omega (arith, same);
  found = λ d. refl;
  rest = refl;
}

further : (n place : ℕ) (e : Entry) (es : List Entry) (value : Option Data) (left : Members) → Found (n + 1) place es value left
    → Found n place (e ∷ es) value (member (string_bytes e.0.now) (view e.1.now) left)
further n place e es value left f = record {
  index = suc f.index;
  counted = omega (arith, f.counted);
  found = f.found;
  rest = ap (member (string_bytes e.0.now) (view e.1.now)) f.rest;
}

found_by : (o : Ordering) (n place : ℕ) (e : Entry) (es : List Entry) (later : Option ℕ) (value : Option Data) (left : Members)
    → (later ≡ Some place → Found (n + 1) place es value left) → cond (is_eq o) (Some n) later ≡ Some place
    → Found n place (e ∷ es) (match_ordering o value (Some (view e.1.now)) value)
    (cond (is_eq o) (members es) (member (string_bytes e.0.now) (view e.1.now) left))
found_by Less n place e es later value left more at = further n place e es value left (more at)
found_by Equal n place e es later value left more at = here n place e es cc
found_by Greater n place e es later value left more at = further n place e es value left (more at)

found_from : (key : List ℕ) (n place : ℕ) (es : List Entry) → position_from (is_at key) n es ≡ Some place
    → Found n place es (get_member key (members es)) (without key (members es))
found_from key n place [] at = absurd cc
found_from key n place (e ∷ es) at =
    found_by (slice_cmp nat_cmp key (string_bytes e.0.now)) n place e es _ _ _ (found_from key (n + 1) place es) at

-- the value at a key that is found, and what is left without it
pub found_at : (key : List ℕ) (place : ℕ) (es : List Entry) (d : Entry) → position (is_at key) es ≡ Some place
    → (get_member key (members es) ≡ Some (view (get_or es place d).1.now))
    × (members (take place es ++ drop (place + 1) es) ≡ without key (members es))
found_at key place es d at =
    let f = found_from key 0 place es (sym (position_from-zero (is_at key) es) ∙ at) in
    let same : f.index ≡ place = omega (arith, f.counted) in
    let next : place + 1 ≡ suc f.index = omega (arith, f.counted) in (
      f.found d ∙ ap (λ (i : ℕ). Some (view (get_or es i d).1.now)) same,
      ap (λ (i : ℕ). members (take i es ++ drop (place + 1) es)) (sym same)
          ∙ ap (λ (i : ℕ). members (take f.index es ++ drop i es)) next
          ∙ f.rest,
    )

lacks_by : (o : Ordering) (n : ℕ) (e : Entry) (es : List Entry) (later : Option ℕ) (value : Option Data) (left : Members)
    → (later ≡ None → (value ≡ None) × (members es ≡ left)) → cond (is_eq o) (Some n) later ≡ None
    → (match_ordering o value (Some (view e.1.now)) value ≡ None)
    × (members (e ∷ es) ≡ cond (is_eq o) (members es) (member (string_bytes e.0.now) (view e.1.now) left))
lacks_by Less n e es later value left more at = ((more at).0, ap (member (string_bytes e.0.now) (view e.1.now)) (more at).1)
lacks_by Equal n e es later value left more at = absurd cc
lacks_by Greater n e es later value left more at = ((more at).0, ap (member (string_bytes e.0.now) (view e.1.now)) (more at).1)

lacks_from : (key : List ℕ) (n : ℕ) (es : List Entry) → position_from (is_at key) n es ≡ None
    → (get_member key (members es) ≡ None) × (members es ≡ without key (members es))
lacks_from key n [] at = (refl, refl)
lacks_from key n (e ∷ es) at =
    lacks_by (slice_cmp nat_cmp key (string_bytes e.0.now)) n e es _ _ _ (lacks_from key (n + 1) es) at

-- a key that isn't there
pub lacks : (key : List ℕ) (es : List Entry) → position (is_at key) es ≡ None
    → (get_member key (members es) ≡ None) × (members es ≡ without key (members es))
lacks key es at = lacks_from key 0 es (sym (position_from-zero (is_at key) es) ∙ at)

pub no_more-some : (es : List Entry) (n : ℕ) → n ≡ length es → (n == 0) ≡ false → Err UnknownKey ≡ no_more (members es)
no_more-some [] n counted some = absurd cc
no_more-some (e ∷ es) n counted some = refl
