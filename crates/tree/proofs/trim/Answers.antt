-- What trimming from the link reached gives is what it gives from the first
use Rattle.std.proofs.Common.{◌≡◌, suc, add-one, arith, length, rules}
use Rattle.tree.proofs.Trimming.{trim_start, trim_end, trim_stays, trim_leaf, trim_on, trim_less}
use Rattle.tree.proofs.trim.Goals as goal

pub loop-l-init : goal.loop-l-init
loop-l-init c = rw (add-one c.args.last) (trim_start c.args.m.now c.args.last c.requires.sound c.requires.used)

pub returns-then-first_of-ne0 : goal.returns-then-first_of-ne0
returns-then-first_of-ne0 c =
    let l = c.loop-l in
    trim_stays c.args.m.now l.m (suc c.args.last) l.l c.first_of.result (omega arith) c.first_of.ensures (omega arith) l.invariant

pub unlink-requires : goal.unlink-requires
unlink-requires c =
    let l = c.loop-l in
    trim_leaf c.args.m.now l.m (suc c.args.last) l.l c.first_of.result (omega arith) c.first_of.ensures (omega arith) l.invariant

pub loop-l-smaller : goal.loop-l-smaller
loop-l-smaller c =
    let l = c.loop-l in
    trim_less c.args.m.now l.m (suc c.args.last) c.unlink.new.m l.l (omega arith) l.invariant c.unlink.ensures

pub loop-l-preserved : goal.loop-l-preserved
loop-l-preserved c =
    let l = c.loop-l in
    let same : length c.unlink.new.m ≡ length l.m = search rules in
    trim_on c.args.m.now l.m (suc c.args.last) c.unlink.new.m l.l c.parent_of-l.result (omega arith) l.invariant same c.unlink.ensures
    c.parent_of-l.ensures

pub returns : goal.returns
returns c = let l = c.loop-l in trim_end c.args.m.now l.m (suc c.args.last) l.l c.loop-l-test.false l.invariant
