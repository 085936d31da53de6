use Rattle.der_tree.proofs.der.reads_exactly.Goals as goal

pub returns : goal.returns
returns g c = λ s v h. (λ e. g.T.Form.codec.takes s v h e, λ x. g.T.Form.codec.again v x.0 s x.1 x.2)
