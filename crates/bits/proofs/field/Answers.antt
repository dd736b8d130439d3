-- The field is its word, shifted and cut to 16 bits
use mathlib.Core.Path.{sym}
use Prim.Native.Nat.{◌-◌, ◌%◌}
use native.Mathlib.Omega.{arith}
use Rattle.bits.specs.Laws.{get_unpack}
use Rattle.bits.proofs.field.Goals as goal

pub returns : goal.returns
returns c =
    let s = c in
    sym (get_unpack 16 4 s.args.words.now s.args.i (3 - s.args.i % 4) (omega arith))
