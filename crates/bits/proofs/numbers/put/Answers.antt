-- A word that counts gets one bit more; one that does not is cleared, and then its bit and the head's are set.
use Rattle.std.proofs.Common.{◌≡◌, sym, ◌∙◌, ◌/◌, length}
use Rattle.std.proofs.Math.ListN.{length-set}
use Rattle.bits.proofs.Numbering.{put_more, put_first}
use Rattle.bits.proofs.numbers.put.Goals as goal

pub returns-then-is_marked : goal.returns-then-is_marked
returns-then-is_marked c =
    put_more c.args.map.now c.mark.new.map c.args.n c.requires.n_bound c.requires.number_set c.mark.auto.map
    (sym c.is_marked.ensures ∙ c.if-is_marked.true) c.mark.ensures

pub returns : goal.returns
returns c =
    let long : length c.mark-2.new.map ≡ 65 = c.mark-2.auto.map ∙ length-set c.args.map.now (c.args.n / 64) 0 ∙ c.requires.number_set.size in
    put_first c.args.map.now c.mark-3.new.map c.args.n c.requires.n_bound c.requires.number_set
    (c.mark-3.auto.map ∙ long ∙ sym c.requires.number_set.size) (sym c.is_marked.ensures ∙ c.if-is_marked.false)
    c.mark-2.new.map c.mark-2.ensures c.mark-3.ensures long
