-- Whether what is missing has nodes is known before anything is written, and then it grows
use Rattle.tree.proofs.Growing.{plant_growing, plant_fits}
use Rattle.tree.proofs.plant.Goals as goal

pub grow-requires : goal.grow-requires
grow-requires c =
    let d = c.args.d in
    plant_growing c.args.m.now c.args.form.now c.requires.sound d.link d.depth c.requires.descended
    (c.has_nodes.ensures.yes c.if-not-has_nodes.false) d.behind c.requires.next

pub returns : goal.returns
returns c =
    let d = c.args.d in
    plant_fits c.args.m.now c.args.form.now c.requires.sound d.link d.depth c.requires.descended c.grow.new.m c.grow.result c.requires.form_nonzero
    (c.has_nodes.ensures.yes c.if-not-has_nodes.false) c.grow.ensures
