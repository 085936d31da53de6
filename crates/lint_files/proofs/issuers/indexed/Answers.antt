use Rattle.std.proofs.Common.{◌++◌, ◌∷◌, [], ap, arith, sym, take, ◌∙◌, Option, List, ℕ}
use Rattle.std.proofs.lemmas.List.{take_all, take_more}
use Rattle.lint_files.specs.Candidates.{CandidateView}
use Rattle.lint_files.specs.Firsts.{first_at}
use Rattle.lint_files.specs.Issuers.{any_key, if_same, key_of, or_else}
use Rattle.lint_files.proofs.FirstUnder.{first_under, issuers_are, more}
use Rattle.lint_files.proofs.issuers.indexed.Goals as goal

pub loop-candidate-preserved : goal.loop-candidate-preserved
loop-candidate-preserved c = λ q.
    let cs = c.args.candidates.now in
    let i = c.loop-candidate.candidate-index in
    let d = c.candidate-item.result in
    let grown = take_more cs i d (omega arith) ∙ ap (λ (x : CandidateView). take i cs ++ x ∷ []) (sym c.candidate-item.is) in
    c.in_ok-put_candidate.ensures q
    ∙ ap (λ (o : Option (List ℕ)). or_else (or_else o (if_same (any_key d.subject) q d.octets)) (if_same (key_of d.subject d.key) q d.octets))
    (c.loop-candidate.invariant q)
    ∙ sym (more q (take i cs) d)
    ∙ ap (first_under q) (sym grown)

pub returns : goal.returns
returns c =
    let cs = c.args.candidates.now in
    let i = c.loop-candidate.candidate-index in
    let whole = take_all i cs (omega arith) in
    issuers_are (first_at c.loop-candidate.firsts) cs (λ q. c.loop-candidate.invariant q ∙ ap (first_under q) whole)
