-- A node written, a link put and a bit marked are a node linked in
use Rattle.std.proofs.Common.{◌≡◌, ◌∙◌, suc, ◌+◌, add-one, length, set, take, rules}
use Rattle.std.proofs.Math.ListN.{length-set}
use Rattle.layout.specs.Layout.{map_words, nodes_at}
use Rattle.shape.specs.Effects.{Leads, Writes, linked}
use Rattle.links.specs.Words.{shape, hook}
use Rattle.tree.proofs.Stores.{writes, flips}
use Rattle.tree.proofs.link.Goals as goal

pub returns : goal.returns
returns c =
    let s = c.requires in
    let ws = c.args.m.now in
    let ws₁ = set ws (nodes_at + c.args.n) c.pack.result in
    let e : length c.put.new.m ≡ length ws₁ = search rules in
    let f : length c.mark.new.map ≡ length (take map_words c.put.new.m) = search rules in
    let w : Writes (shape ws) (shape ws₁) c.args.n c.args.c c.args.at.parent c.get-x.result = writes ws s.size c.args.n s.node
    c.pack.result c.args.c c.args.at.parent c.get-x.result c.pack.ensures in
    let at : Leads (shape ws₁) (shape c.put.new.m) (hook c.args.at.parent c.args.at.behind) (suc c.args.n) = rw add-one at c.put.ensures in
    linked s.free s.valid (rw (s.under, c.get-x.ensures) w) at
    (flips c.put.new.m c.mark.new.map c.args.n 1 (e ∙ length-set ws (nodes_at + c.args.n) c.pack.result ∙ s.size) s.node f c.mark.ensures)
