-- What is read at the front of the input, in terms of elements.
use Rattle.std.specs.Prelude.{◌≡◌, ◌↔◌, ◌==◌, ℕ, true, cond, length, List, Option, Some, None, Result, Ok, Err, IfOk, IsErrOf, refl}
use Rattle.std.proofs.Common.{ap, sym}
use Rattle.std.specs.Option.{option_map}
use Rattle.std.specs.Result.{result_ok}
use Rattle.asn1_core.specs.Binds.{◌>>=◌}
use Rattle.der_tree.specs.declared.error.WindowFault.{WindowFault}
use Rattle.der_tree.specs.declared.error.WindowFault.TheVariants.{Incomplete, Malformed}
use Rattle.der_tree.specs.Element.{Element, element_at, one_element}
use Rattle.der_tree.specs.Fronts.{BeginsWith, IsFront, IsMalformed}
use Rattle.der_tree.specs.Incomplete.{goes_on}
use Rattle.der_tree.specs.Windows.{Finds}
use Rattle.der_tree.specs.laws.Element.{element_takes}
use Rattle.der_tree.proofs.FrontLaws.{no_completion, begun_is_no_front, not_begun}
use Rattle.der_tree.proofs.Completions.{are_bytes, completion}

-- ---- one element, and nothing after it

pub in_front : (input : List ℕ) (s : Element) (rest : List ℕ) → element_at input ≡ Some (s, rest) → one_element input ≡ cond (length rest == 0) (Some s) None
in_front input s rest e = ap (λ (o : Option (Element × List ℕ)). o >>= λ x. cond (length x.1 == 0) (Some x.0) None) e

pub none_in_front : (input : List ℕ) → element_at input ≡ None → one_element input ≡ None
none_in_front input e = ap (λ (o : Option (Element × List ℕ)). o >>= λ x. cond (length x.1 == 0) (Some x.0) None) e

pub ruleset alone = (in_front, none_in_front)

-- ---- what is read, and what it may still become

module _ {X : Type 0} (view : X → Element × List ℕ) (input : List ℕ) where
  abbrev Read : Result X WindowFault → Type 0
  Read r = Finds view r (element_at input) (goes_on input)

  pub found : (r : Result X WindowFault) → Read r → IfOk r (λ x. BeginsWith input (view x).0 (view x).1)
  found (Ok x) h = let t = element_takes input (view x).0 (view x).1 h.0 in (t.1, t.0)
  found (Err Incomplete) h = tt
  found (Err Malformed) h = tt

  pub front : (r : Result X WindowFault) → Read r → option_map view (result_ok r) ≡ element_at input
  front (Ok x) h = sym h.0
  front (Err e) h = sym h.0

  pub incomplete : (r : Result X WindowFault) → are_bytes input ≡ true → Read r → IsErrOf r Incomplete ↔ IsFront input
  incomplete (Ok x) b h = (λ e. absurd cc, λ f. absurd (let t = element_takes input (view x).0 (view x).1 h.0 in begun_is_no_front input (view x).0 (view x).1 (t.1, t.0) f))
  incomplete (Err Incomplete) b h = (λ e. completion input b h.0 h.1, λ f. refl)
  incomplete (Err Malformed) b h = (λ e. absurd cc, λ f. absurd (no_completion input h.0 h.1 f))

  pub malformed : (r : Result X WindowFault) → are_bytes input ≡ true → Read r → IsErrOf r Malformed ↔ IsMalformed input
  malformed (Ok x) b h = (λ e. absurd cc, λ f. absurd (let t = element_takes input (view x).0 (view x).1 h.0 in f.1 (view x).0 (view x).1 (t.1, t.0)))
  malformed (Err Incomplete) b h = (λ e. absurd cc, λ f. absurd (f.0 (completion input b h.0 h.1)))
  malformed (Err Malformed) b h = (λ e. (no_completion input h.0 h.1, not_begun input h.0), λ f. refl)
