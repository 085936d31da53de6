use Rattle.std.specs.Prelude.{map}
use Rattle.der_tree.proofs.FormLaws.{written_is}
use Rattle.der_tree.specs.View.{plain}
use Rattle.rcgen_tbs.proofs.Frames.{only_memory}
use Rattle.rcgen_tbs.specs.Frames.{framed, framed_value, octets_in}
use Rattle.rcgen_tbs.proofs.list.framed_octets.Goals as goal

pub memory_only-requires : goal.memory_only-requires
memory_only-requires c = only_memory c.args.frame.now c.args.entries _ c.requires.frame c.requires.entries c.framed_tree.ensures

pub returns-clause-form : goal.returns-clause-form
returns-clause-form c =
    written_is framed (framed_value c.args.frame.now (map octets_in c.args.entries)) (plain c.in_ok-tree.tree) c.in_ok-octets.octets.items
    (rw c.in_ok-tree.ensures.value at c.framed_tree.ensures) c.in_ok-octets.ensures.octets c.in_ok-octets.ensures.element
