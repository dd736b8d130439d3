-- How a record is written: its first cell and then its further cells; where there is no room for all of it, nothing.
use Rattle.std.specs.Prelude.{◌≡◌, refl, List, [], ◌∷◌, ◌++◌, ℕ, suc, ◌+◌, ◌-◌, ◌*◌, ◌≤◌, ◌<◌, length, set, take, drop, Option, Some, None}
use Rattle.std.proofs.Common.{ap, ap₂, ◌∙◌, subst, append-nil, arith, length-set}
use Rattle.std.proofs.Math.Seq.{take-length, drop-length}
use borrow.Rule.Slice.PartMut.{put_mid, mid_of, same_len_mid}
use Rattle.commands.specs.Records.{Record, cells_of, bare, good}

-- A record is written from the front of the output, and n says how many cells; or there is no room for it, and n is none.
pub record Writes (r : Record) (out out' : List ℕ) (n : Option ℕ) : Type 0 where
  pub fits : length r.cells < length out → (n ≡ Some (suc (length r.cells))) × (out' ≡ cells_of r ++ drop (suc (length r.cells)) out)
  pub short : length out ≤ length r.cells → (n ≡ None) × (out' ≡ out)

-- ---- laws

pub written_as : (r r' : Record) (out out' : List ℕ) (n : Option ℕ) → r ≡ r' → Writes r out out' n → Writes r' out out' n
written_as r r' out out' n e w = subst (λ (x : Record). Writes x out out' n) e w

pub no_room : (r : Record) (out : List ℕ) → length out ≤ length r.cells → Writes r out out None
no_room r out h = record { fits = λ l. absurd (omega arith); short = λ _. (refl, refl) }

module _ (r : Record) (x : ℕ) (first : x ≡ 4096 * r.refusal + length r.cells) where
  -- the first cell put, and then the others behind it
  pub with_cells : (out ys : List ℕ) (k n : ℕ) → length r.cells < length out → k ≡ length out - 1 → n ≡ length r.cells + 1
      → ys ≡ r.cells ++ drop (length r.cells) (mid_of 1 k (set out 0 x)) → Writes r out (put_mid 1 k (set out 0 x) ys) (Some n)
  with_cells [] ys k n l e f g = absurd (omega arith)
  with_cells (o ∷ os) ys k n l e f g = record { fits = λ _. (ap Some (let h : n ≡ suc (length r.cells) = omega arith in h), is); short = λ h. absurd (omega arith) }
    where
      all : k ≡ length os
      all = e ∙ omega arith

      mid : take k os ≡ os
      mid = ap (λ (j : ℕ). take j os) all ∙ take-length os

      end : drop k os ≡ []
      end = ap (λ (j : ℕ). drop j os) all ∙ drop-length os

      is : x ∷ (ys ++ drop k os) ≡ cells_of r ++ drop (suc (length r.cells)) (o ∷ os)
      is = ap₂ {C = List ℕ} (λ (a : ℕ) (b : List ℕ). a ∷ b) first
          (ap (λ (z : List ℕ). ys ++ z) end ∙ append-nil ys ∙ g ∙ ap (λ (z : List ℕ). r.cells ++ drop (length r.cells) z) mid)

-- the cells behind the first put, and then the first
module _ (r : Record) (x : ℕ) (first : x ≡ 4096 * r.refusal + length r.cells) where
  pub cells_then : (out ys : List ℕ) (k n : ℕ) → length r.cells < length out → k ≡ length out - 1 → n ≡ length r.cells + 1
      → ys ≡ r.cells ++ drop (length r.cells) (mid_of 1 k out) → Writes r out (set (put_mid 1 k out ys) 0 x) (Some n)
  cells_then [] ys k n l e f g = absurd (omega arith)
  cells_then (o ∷ os) ys k n l e f g = with_cells r x first (o ∷ os) ys k n l e f g

pub bare_written : (refusal x : ℕ) (out : List ℕ) → 0 < length out → x ≡ 4096 * refusal → Writes (bare refusal) out (set out 0 x) (Some 1)
bare_written refusal x [] h e = absurd (omega arith)
bare_written refusal x (o ∷ os) h e = record
    { fits = λ _. (refl, ap (λ (a : ℕ). a ∷ os) (let z : x ≡ 4096 * refusal + 0 = omega arith in z)); short = λ l. absurd (omega arith) }

pub two_written : (a b x y : ℕ) (out : List ℕ) → 2 < length out → x ≡ a → y ≡ b → Writes (good (a ∷ b ∷ [])) out (set (set (set out 0 2) 1 x) 2 y) (Some 3)
two_written a b x y [] h e f = absurd (omega arith)
two_written a b x y (o ∷ []) h e f = absurd (omega arith)
two_written a b x y (o ∷ p ∷ []) h e f = absurd (omega arith)
two_written a b x y (o ∷ p ∷ q ∷ out) h e f = record { fits = λ _. (refl, ap₂ {C = List ℕ} (λ (m n : ℕ). 2 ∷ m ∷ n ∷ out) e f); short = λ l. absurd (omega arith) }

-- the room behind the first cell
pub behind_first : (out : List ℕ) (x k : ℕ) → 0 < length out → k ≡ length out - 1 → length (mid_of 1 k (set out 0 x)) ≡ length out - 1
behind_first [] x k h e = absurd (omega arith)
behind_first (o ∷ os) x k l e = ap (λ (j : ℕ). length (take j os)) (let h : k ≡ length os = omega arith in h) ∙ ap length (take-length os) ∙ omega arith

pub kept_long : (out ys : List ℕ) (x k : ℕ) → length ys ≡ length (mid_of 1 k (set out 0 x)) → length (put_mid 1 k (set out 0 x) ys) ≡ length out
kept_long out ys x k e = same_len_mid 1 k (set out 0 x) ys e ∙ length-set out 0 x
