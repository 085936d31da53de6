-- What a word makes of its input, the reason why the input is none that it takes, or the cause against it.
use Rattle.std.specs.Prelude.{◌≡◌, ℕ, List, Option, Some, None, Result, Ok, Err, refl}
use Rattle.std.specs.Option.{option_map}
use Rattle.std.proofs.Common.{sym, ◌∙◌, subst}
use Rattle.rcgen_text.specs.Causes.{Cause}
use Rattle.certify_core.specs.Lines.{cause_name}
use Rattle.certify_core.specs.Outcome.{Outcome, done, bad_profile, refused}
use Rattle.toml_format.specs.declared.reason.Reason.{Reason}

pub record CommandSpec : Type 1 where
  -- the parameters, and which say what the input says
  pub Params : Type 0
  pub Says : Params → Type 0
  -- why the input is none that the word takes
  pub HasReason : Reason → Type 0
  -- which texts are made of parameters, and the name of the first cause against them
  pub IsText : Params → List ℕ → Type 0
  pub first_cause : Params → Option (List ℕ)
  -- parameters that say the same have one first cause, and one text
  pub one_cause : (x y : Params) → Says x → Says y → first_cause x ≡ first_cause y
  pub one_text : (x y : Params) → Says x → Says y → (text other : List ℕ) → IsText x text → IsText y other → text ≡ other
  -- there is one reason, and then no parameters say what the input says
  pub one_reason : (reason other : Reason) → HasReason reason → HasReason other → reason ≡ other
  pub is_taken : (x : Params) → Says x → (reason : Reason) → ¬ (HasReason reason)

-- the name of the cause, where there is one
abbrev pub named : Option Cause → Option (List ℕ)
named = option_map cause_name

-- the text is made of parameters against which there is no cause
pub record IsMade (m : CommandSpec) (text : List ℕ) : Type 0 where
  pub params : m.Params
  pub says : m.Says params
  pub written : m.IsText params text
  pub no_cause : m.first_cause params ≡ None

-- the name is that of the first cause against parameters that say what the input says
pub record HasFirstCause (m : CommandSpec) (name : List ℕ) : Type 0 where
  pub params : m.Params
  pub says : m.Says params
  pub first : m.first_cause params ≡ Some name

abbrev pub SpecGives : CommandSpec → Outcome → Type 0
SpecGives m (done text) = IsMade m text
SpecGives m (bad_profile reason) = m.HasReason reason
SpecGives m (refused name) = HasFirstCause m name

-- ---- what is known before there are parameters

-- no reason is reported
abbrev pub IsTaken : Outcome → Type 0
IsTaken (bad_profile reason) = ⊥
IsTaken _ = Unit {0}

-- the name of the cause that is reported
abbrev pub told_cause : Outcome → Option (List ℕ)
told_cause (refused name) = Some name
told_cause _ = None

pub one_done : (text other : List ℕ) → done text ≡ done other → text ≡ other
one_done text other h = cc

pub one_bad_profile : (reason other : Reason) → bad_profile reason ≡ bad_profile other → reason ≡ other
one_bad_profile reason other h = cc

pub taken_has_no_reason : (o : Outcome) (reason : Reason) → IsTaken o → bad_profile reason ≡ o → ⊥
taken_has_no_reason o reason taken h = subst IsTaken (sym h) taken

-- the input comes to this, and to nothing else
abbrev pub coming_to : Outcome → CommandSpec
coming_to o = record {
  Params = Unit {0};
  Says = λ params. IsTaken o;
  HasReason = λ reason. bad_profile reason ≡ o;
  IsText = λ params text. done text ≡ o;
  first_cause = λ params. told_cause o;
  one_cause = λ params other says said. refl;
  one_text = λ params other says said text another h k. one_done text another (h ∙ sym k);
  one_reason = λ reason other h k. one_bad_profile reason other (h ∙ sym k);
  is_taken = λ params says reason h. taken_has_no_reason o reason says h;
}

-- what is made of what was read, or what its fault comes to
abbrev pub unless_fault : {A E : Type 0} → (E → Outcome) → (A → CommandSpec) → Result A E → CommandSpec
unless_fault outcome spec (Ok x) = spec x
unless_fault outcome spec (Err fault) = coming_to (outcome fault)

-- of what a document says, or the reason why it is none
abbrev pub of_document : {P : Type 0} → (P → CommandSpec) → Result P Reason → CommandSpec
of_document spec read = unless_fault bad_profile spec read

-- of what the DER in a document contains, or the name of its fault
abbrev pub of_der : {A : Type 0} → (A → CommandSpec) → Result A Cause → CommandSpec
of_der spec read = unless_fault (λ fault. refused (cause_name fault)) spec read
