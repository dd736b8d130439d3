-- Each way out is one case of the answer.
use Rattle.std.proofs.Common.{[], ℕ, ◌<◌, length, get_or, refl, sym, ap, subst, ◌∙◌, arith, rules, ◌≡◌, None}
use Rattle.names.specs.Table.{Holds, Missing, slot_in}
use Rattle.names.specs.Cases.{no_name, held, new, no_slot, slot_has, slot_none}
use Rattle.names.specs.Once.{passes}
use Rattle.names.proofs.Cases.{enters_so}
use Rattle.names.proofs.Running.{length_is}
use Rattle.names.proofs.enter_passing.Goals as goal

pub returns-then-not-is_name : goal.returns-then-not-is_name
returns-then-not-is_name c = enters_so _ (no_name (passes c.requires.0.holds) (c.is_name.ensures.no c.if-not-is_name.true)) refl

pub returns-in-Some : goal.returns-in-Some
returns-in-Some c =
    let k = c.requires.0 in
    let name = c.args.name.now in
    let e = c.in-Some.ensures.1 k.names _ k.holds k.count in
    let l : slot_in k.names name < length k.names = omega (arith, c.in-Some.ensures.0, e, k.count) in
    enters_so _ (held {k = c.in-Some.slot} k.holds (omega (arith, k.count)) (ap (λ (i : ℕ). get_or k.names i []) e ∙ slot_has k.names _ l)) refl

pub returns-then-free-eq0 : goal.returns-then-free-eq0
returns-then-free-eq0 c =
    let k = c.requires.0 in
    let none : c.look_up_in-found.result ≡ None = search rules in
    let e = rw none at (c.look_up_in-found.ensures.1 k.names _ k.holds k.count) in
    let missing = slot_none k.names _ k.holds.apart (omega (arith, e, k.count)) in
    enters_so _ (no_slot (subst (Holds _ k.names) c.if-free-eq0.true k.holds) (c.is_name.ensures.yes c.if-not-is_name.false) missing) refl

pub add-requires : goal.add-requires
add-requires c =
    let k = c.requires.0 in
    let n = c.is_name.ensures.yes c.if-not-is_name.false in
    let short = n.short in
    (omega (arith, k.count, length_is k.holds), omega arith)

pub returns : goal.returns
returns c =
    let k = c.requires.0 in
    let e = c.in_default.ensures.1 k.names _ k.holds k.count in
    let missing : Missing k.names c.args.name.now = slot_none k.names _ k.holds.apart (omega (arith, e, k.count)) in
    let room : 0 < c.args.counted.free = omega arith in
    enters_so _ (new k.holds (c.is_name.ensures.yes c.if-not-is_name.false) missing room (sym k.count)) (c.add.ensures k.names _ k.holds k.count room)
