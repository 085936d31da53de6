use Rattle.shelf_register.proofs.exporting.give_rows.Goals as goal

pub rows-init : goal.rows-init
rows-init g c = record { live = c.in_ok-seek.ensures.live }

pub rows-preserved : goal.rows-preserved
rows-preserved g c = record { live = c.in_ok-next.ensures.stay 0 c.rows.invariant.live }
