use Rattle.std.proofs.Common.{◌∙◌, rules}
use Rattle.std.proofs.lemmas.Fn.{dedup_same}
use Rattle.std.proofs.lemmas.List.Sorted.{answers_always, ranks_by}
use Rattle.crl_index.proofs.Firsts.{Pair, same_serial, is_below, found_after_sort, found_after_dedup, ascending_after_dedup}
use Rattle.crl_index.proofs.Numbers.{number_total}
use Rattle.crl_index.proofs.serials.keep_firsts.Goals as goal

pub returns-clause-ascending : goal.returns-clause-ascending
returns-clause-ascending c =
    let is = dedup_same _ same_serial _ (λ x y b f' x' y' k. search rules) _ _ c.dedup_by.ensures.filtered in
    rw is (ascending_after_dedup _ (c.in_ok-sort_by.ensures.sorted is_below (ranks_by number_total (λ (e : Pair). e.0)) (answers_always _ _ _ (λ f a r g h. search rules))))

pub returns-clause-first : goal.returns-clause-first
returns-clause-first c serial =
    let is = dedup_same _ same_serial _ (λ x y b f' x' y' k. search rules) _ _ c.dedup_by.ensures.filtered in
    rw is (found_after_dedup serial c.sort_by.new.self.items ∙ found_after_sort serial _ _ (c.sort_by.ensures.stable is_below (ranks_by number_total (λ (e : Pair). e.0)) (answers_always _ _ _ (λ f a r g h. search rules))))
