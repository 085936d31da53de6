use Rattle.std.proofs.Common.{ap, ◌∙◌, arith, length}
use Rattle.crl_index.specs.Search.{first_place, found_in}
use Rattle.crl_index.proofs.Places.{place_beside-pairs, is_index}
use Rattle.crl_index.proofs.Firsts.{found_in_numbered, length_numbered}
use Rattle.crl_index.proofs.serials.Serials.sorted.Goals as goal

pub returns-clause-index : goal.returns-clause-index
returns-clause-index c = rw (c.in_ok-serials.ensures.serials, c.in_ok-serials.ensures.places) (is_index _ _ c.in_ok-keep_firsts.ensures.ascending (omega (arith, c.in_ok-keep_firsts.ensures.fewer, ap length c.in_ok-pairs.ensures, length_numbered 1 c.as_slice.result.now, ap length c.as_slice.ensures)))

pub returns-clause-first : goal.returns-clause-first
returns-clause-first c = λ serial. rw (c.in_ok-serials.ensures.serials, c.in_ok-serials.ensures.places) (place_beside-pairs serial c.keep_firsts.new.pairs.items ∙ c.in_ok-keep_firsts.ensures.first serial ∙ ap (found_in serial) c.in_ok-pairs.ensures ∙ found_in_numbered serial c.as_slice.result.now ∙ ap (first_place serial) c.as_slice.ensures)
