-- What is made of an input is one text, one reason, or the name of one cause.
use Rattle.std.proofs.Common.{ℕ, List, sym, ◌∙◌, ap}
use Rattle.asn1_core.specs.Binds.{some_is}
use Rattle.certify_core.specs.CommandSpec.{CommandSpec, SpecGives, IsMade, HasFirstCause}
use Rattle.certify_core.specs.Outcome.{done, bad_profile, refused, ComesToOne}

-- an input with a cause has no text
text_or_cause : (m : CommandSpec) (text name : List ℕ) → IsMade m text → HasFirstCause m name → ⊥
text_or_cause m text name i h =
    let none = sym h.first ∙ m.one_cause h.params i.params h.says i.says ∙ i.no_cause in
    cc

pub comes_to_one : (m : CommandSpec) → ComesToOne (SpecGives m)
comes_to_one m (done text) (done other) h k = ap done (m.one_text h.params k.params h.says k.says text other h.written k.written)
comes_to_one m (bad_profile reason) (bad_profile other) h k = ap bad_profile (m.one_reason reason other h k)
comes_to_one m (refused name) (refused other) h k =
    ap refused (some_is name other (sym h.first ∙ m.one_cause h.params k.params h.says k.says ∙ k.first))
comes_to_one m (done text) (bad_profile reason) h k = absurd (m.is_taken h.params h.says reason k)
comes_to_one m (bad_profile reason) (done text) h k = absurd (m.is_taken k.params k.says reason h)
comes_to_one m (done text) (refused name) h k = absurd (text_or_cause m text name h k)
comes_to_one m (refused name) (done text) h k = absurd (text_or_cause m text name k h)
comes_to_one m (bad_profile reason) (refused name) h k = absurd (m.is_taken k.params k.says reason h)
comes_to_one m (refused name) (bad_profile reason) h k = absurd (m.is_taken h.params h.says reason k)
