-- Cells made from pairs of bytes: what is still to be made leads to the same cells.
use Rattle.std.proofs.Common.{◌≡◌, refl, sym, ap, ap₂, ◌∙◌, List, [], ◌∷◌, ℕ, suc, ◌+◌, ◌*◌, ◌≤◌, ◌<◌, arith, length, take, drop, set}
use Rattle.std.specs.Int.{w16, from_be_bytes}
use Rattle.std.proofs.Math.Seq.{sets, set_out}
use Rattle.listing.specs.Listing.{cells_in}

-- one more cell is made of the first pair of the rest
pub one_made : (rest pair others cells : List ℕ) (i value : ℕ) → 2 ≤ length rest → pair ≡ take 2 rest → others ≡ drop 2 rest → value ≡ from_be_bytes w16 pair
    → sets (set cells i value) (i + 1) (cells_in others) ≡ sets cells i (cells_in rest)
unfolding cells_in
one_made [] pair others cells i value h p o v = absurd (omega arith)
one_made (a ∷ []) pair others cells i value h p o v = absurd (omega arith)
one_made (a ∷ b ∷ rest) pair others cells i value h p o v =
    let made : value ≡ 256 * a + b = v ∙ ap (from_be_bytes w16) p ∙ (let e : a * 256 + b ≡ 256 * a + b = omega arith in e) in
    let next : i + 1 ≡ suc i = omega arith in
    ap₂ (λ (n k : ℕ). sets (set cells i n) k (cells_in others)) made next ∙ ap (λ (l : List ℕ). sets (set cells i (256 * a + b)) (suc i) (cells_in l)) o

-- no pair is left
pub no_pair : (rest cells : List ℕ) (i : ℕ) → length rest < 2 → cells ≡ sets cells i (cells_in rest)
unfolding cells_in
no_pair [] cells i h = refl
no_pair (a ∷ []) cells i h = refl
no_pair (a ∷ b ∷ rest) cells i h = absurd (omega arith)

-- no cell is left
pub no_cell : (cells : List ℕ) (i : ℕ) (values : List ℕ) → length cells ≤ i → cells ≡ sets cells i values
no_cell cells i [] h = refl
no_cell cells i (v ∷ values) h = no_cell cells (suc i) values (omega arith) ∙ sym (ap (λ (l : List ℕ). sets l (suc i) values) (set_out cells i v h))
