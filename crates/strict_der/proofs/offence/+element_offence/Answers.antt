use Rattle.std.proofs.Common.{◌≡◌, ◌∙◌, ◌<◌, ◌+◌, ◌-◌, length, true, Some, ap, sym, arith}
use Rattle.std.proofs.lemmas.Grind.{common_steps}
use Rattle.der_tree.specs.Windows.{shown}
use Rattle.strict_der.specs.Offences.{element_offence, placed}
use Rattle.strict_der.proofs.Offences.{after_next, content_within, in_next, next_fits, no_element, none_left, offence_in, order_comes_last, own_comes_first, within_comes_next}
use Rattle.strict_der.proofs.offence.+element_offence.Goals as goal

pub returns-in-Some : goal.returns-in-Some
returns-in-Some t c =
    let level : 0 < c.args.levels = let f = c.if-levels-eq0.false in grind (arith, common_steps) in
    sym (own_comes_first c.args.levels c.args.at (shown c.args.window.now) c.in-Some.rule level c.in-Some.ensures)

pub overflow_sub-place : goal.overflow_sub-place
overflow_sub-place t c =
    omega (arith, content_within (shown c.args.window.now), ap length c.content-left.ensures, ap length c.whole.ensures, ap length c.requires.whole)

pub loop-left-init : goal.loop-left-init
loop-left-init t c =
    let whole = c.whole.ensures ∙ c.requires.whole in
    let content = c.content-left.ensures in (
      λ i. offence_in (element_offence (c.args.levels - 1)) (c.args.at + (length (whole i) - length (content i))) (content i),
      omega (arith, content_within (shown c.args.window.now), ap length content, ap length whole),
    )

pub returns-in_default-read_window : goal.returns-in_default-read_window
returns-in_default-read_window t c =
    let level : 0 < c.args.levels = let f = c.if-levels-eq0.false in grind (arith, common_steps) in
    let constructed : (shown c.args.window.now).constructed ≡ true =
    let a = c.is_constructed.ensures in let b = c.if-not-is_constructed.ensures in let d = c.if-not-is_constructed.false in cc in
    let some : 0 < length c.loop-left.left.now = let a = c.is_empty.ensures in let b = c.loop-left-test.true in grind (arith, common_steps) in
    sym (within_comes_next c.args.levels c.args.at (shown c.args.window.now) (record { at = c.loop-left.place; rule = c.header_rule.result }) level
    c.in_default.ensures constructed
    (sym c.loop-left.invariant.0
    ∙ no_element (element_offence (c.args.levels - 1)) c.loop-left.place c.loop-left.left.now some c.in_default-read_window.ensures.front
    ∙ ap (λ r. Some (record { at = c.loop-left.place; rule = r })) (sym c.header_rule.ensures)))

pub returns-in-Some-element_offence : goal.returns-in-Some-element_offence
returns-in-Some-element_offence t c =
    let level : 0 < c.args.levels = let f = c.if-levels-eq0.false in grind (arith, common_steps) in
    let constructed : (shown c.args.window.now).constructed ≡ true =
    let a = c.is_constructed.ensures in let b = c.if-not-is_constructed.ensures in let d = c.if-not-is_constructed.false in cc in
    let some : 0 < length c.loop-left.left.now = let a = c.is_empty.ensures in let b = c.loop-left-test.true in grind (arith, common_steps) in
    sym (within_comes_next c.args.levels c.args.at (shown c.args.window.now) c.in-Some-element_offence.offence level c.in_default.ensures constructed
    (sym c.loop-left.invariant.0
    ∙ in_next (element_offence (c.args.levels - 1)) c.loop-left.place c.loop-left.left.now c.in-Ok.rest.now (shown c.in-Ok.element)
    c.in-Some-element_offence.offence some c.in-Ok.ensures.front c.in-Some-element_offence.ensures))

pub loop-left-smaller : goal.loop-left-smaller
loop-left-smaller t c =
    omega (arith, next_fits c.loop-left.left.now c.in-Ok.rest.now (shown c.in-Ok.element) c.in-Ok.ensures.front, content_within (shown c.in-Ok.element))

pub loop-left-preserved : goal.loop-left-preserved
loop-left-preserved t c =
    let some : 0 < length c.loop-left.left.now = let a = c.is_empty.ensures in let b = c.loop-left-test.true in grind (arith, common_steps) in
    let whole = c.whole-in-loop-left.ensures ∙ c.in-Ok.ensures.whole in (
      ap (λ w. offence_in (element_offence (c.args.levels - 1)) (c.loop-left.place + length w) c.in-Ok.rest.now) whole
          ∙ sym (after_next (element_offence (c.args.levels - 1)) c.loop-left.place c.loop-left.left.now c.in-Ok.rest.now (shown c.in-Ok.element) some
          c.in-Ok.ensures.front c.in_default-element_offence.ensures)
          ∙ c.loop-left.invariant.0,
      omega (
        arith,
        c.loop-left.invariant.1,
        next_fits c.loop-left.left.now c.in-Ok.rest.now (shown c.in-Ok.element) c.in-Ok.ensures.front,
        ap length whole,
      ),
    )

pub returns-in-Some-order_rule : goal.returns-in-Some-order_rule
returns-in-Some-order_rule t c =
    let level : 0 < c.args.levels = let f = c.if-levels-eq0.false in grind (arith, common_steps) in
    let constructed : (shown c.args.window.now).constructed ≡ true =
    let a = c.is_constructed.ensures in let b = c.if-not-is_constructed.ensures in let d = c.if-not-is_constructed.false in cc in
    let nothing : length c.loop-left.left.now ≡ 0 = let a = c.is_empty.ensures in let b = c.loop-left-test.false in grind (arith, common_steps) in
    sym (order_comes_last c.args.levels c.args.at (shown c.args.window.now) level c.in_default.ensures constructed
    (sym c.loop-left.invariant.0 ∙ none_left (element_offence (c.args.levels - 1)) c.loop-left.place c.loop-left.left.now nothing)
    ∙ ap (placed c.args.at) (sym c.in-Some-order_rule.ensures))

pub returns-in-None : goal.returns-in-None
returns-in-None t c =
    let level : 0 < c.args.levels = let f = c.if-levels-eq0.false in grind (arith, common_steps) in
    let constructed : (shown c.args.window.now).constructed ≡ true =
    let a = c.is_constructed.ensures in let b = c.if-not-is_constructed.ensures in let d = c.if-not-is_constructed.false in cc in
    let nothing : length c.loop-left.left.now ≡ 0 = let a = c.is_empty.ensures in let b = c.loop-left-test.false in grind (arith, common_steps) in
    sym (order_comes_last c.args.levels c.args.at (shown c.args.window.now) level c.in_default.ensures constructed
    (sym c.loop-left.invariant.0 ∙ none_left (element_offence (c.args.levels - 1)) c.loop-left.place c.loop-left.left.now nothing)
    ∙ ap (placed c.args.at) (sym c.in-None.ensures))
