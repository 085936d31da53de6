use Rattle.der_tree.proofs.der.starts_exactly.Goals as goal

pub returns : goal.returns
returns g c = λ h n. (λ e. g.T.Form.codec.reaches h e n, λ x. g.T.Form.codec.begins x.0 x.1 h x.2 x.3)
