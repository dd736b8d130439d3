-- What was read stands at the front, and what is read next behind it.
use Rattle.std.proofs.Common.{◌≡◌, ℕ, ◌+◌, ◌≤◌, List, ◌++◌, length, take, drop, sym, ap, subst, ◌∙◌, le_refl, drop_at, length-take-le}
use Rattle.std.proofs.lemmas.Slice.{take-put_mid_below}
use Rattle.std.specs.Io.KnownBytes.{Consumes}
use Rattle.std.proofs.KnownBytes.{Consumes-trans}
use Rattle.std.specs.declared.option.Option.{Option}
use borrow.Rule.Slice.PartMut.{put_mid, post_of}
use lib.Seq.{take-add, take-append-le}

pub read_on : (a b c : Option (List ℕ)) (at room n : ℕ) (input part : List ℕ) → at ≤ length input → n ≤ length part
    → Consumes a b (take at input) → Consumes b c (take n part) → Consumes a c (take (at + n) (put_mid at room input part))
read_on a b c at room n input part within fits before read =
    let after = post_of at room input in
    let front = take-put_mid_below at room input part at (le_refl at) within in
    let next : take n (drop at (put_mid at room input part)) ≡ take n part =
    ap (take n) (drop_at (take at input) (part ++ after) at (length-take-le at input within)) ∙ take-append-le n part after fits in
    let whole = take-add at n (put_mid at room input part) in
    subst (Consumes a c) (sym (whole ∙ ap (λ l. l ++ take n (drop at (put_mid at room input part))) front ∙ ap (λ l. take at input ++ l) next)) (Consumes-trans a b c _ _ before read)
