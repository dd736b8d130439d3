-- The hook that `find` finds for the number is sorted, since no rule there has it; so the rule is linked in
use Rattle.std.proofs.Common.{◌+◌, arith}
use Rattle.layout.specs.Layout.{nodes_limit}
use Rattle.tree.specs.Needs.{Room}
use Rattle.links.specs.Limits.{live_low, hook_low}
use Rattle.tree.proofs.Walking.{found_sorted}
use Rattle.tree.proofs.hang.Goals as goal

pub link-requires : goal.link-requires
link-requires c =
    let r = c.requires in
    let f = c.find-at.ensures.found in
    let room : Room c.args.m.now c.args.p c.find-at.result.behind (nodes_limit + c.args.r) c.args.number = record {
      size = r.sound.size;
      owner = live_low c.args.m.now r.sound.size c.args.p r.live;
      sibling = hook_low c.args.m.now r.sound.size c.args.p c.find-at.result.behind f.valid;
      node = (let l = r.place in omega arith);
      cell = (let l = r.low in omega arith);
      free = r.free;
      valid = f.valid;
      under = f.under;
    } in
    rw c.find-at.ensures.parent room

pub returns : goal.returns
returns c =
    let f = c.find-at.ensures.found in
    let links = rw c.find-at.ensures.parent at c.link.ensures in
    record { at = _; below = f.under; sorted = found_sorted c.requires.sound.tree f c.requires.absent; links = links }
