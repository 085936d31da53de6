use Rattle.std.proofs.lemmas.List.{append_assoc}
use Rattle.shelf_explain.specs.Points.{flags_text}
use Rattle.shelf_explain.proofs.points.push_flags.Goals as goal

-- each text is the one before it and a flag
pub returns : goal.returns
unfolding flags_text
returns c =
    rw (c.in_ok-push_flag-4.ensures, c.in_ok-push_flag-3.ensures, c.in_ok-push_flag-2.ensures, c.in_ok-push_flag.ensures) (simp append_assoc)
