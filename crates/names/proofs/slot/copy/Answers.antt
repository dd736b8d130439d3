-- One byte more is copied, by the library's law of a copy.
use Rattle.std.proofs.Common.{◌≡◌, List, ℕ, ◌+◌, ◌<◌, length, get_or, set, ap, sym, ◌∙◌, add-one, arith, length-set}
use Rattle.std.proofs.Math.Seq.{paste, paste-suc}
use Rattle.names.proofs.slot.copy.Goals as goal

copy_more : (d : List ℕ) (at : ℕ) (s : List ℕ) (i : ℕ) → at + i < length d → i < length s → (x : List ℕ) → x ≡ paste d at s i
    → set x (at + i) (get_or s i 0) ≡ paste d at s (i + 1)
copy_more d at s i h l x e =
    ap (λ (y : List ℕ). set y (at + i) (get_or s i 0)) e ∙ paste-suc d at s i 0 h l ∙ ap (paste d at s) (sym (add-one i))

pub loop-i-preserved : goal.loop-i-preserved
loop-i-preserved c =
    let l = c.loop-i in
    let a = c.args in
    let room : a.at + l.i < length a.table.now = omega (arith, c.requires, c.loop-i-test.true) in (
      length-set l.table (a.at + l.i) (get_or a.bytes.now l.i 0) ∙ l.invariant.0,
      copy_more a.table.now a.at a.bytes.now l.i room c.loop-i-test.true l.table l.invariant.1,
    )
