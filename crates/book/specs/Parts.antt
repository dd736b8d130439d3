-- A store changes the words of one part and no others; so a window that does not meet that part stays.
use Rattle.std.specs.Prelude.{◌≡◌, ◌⊎◌, List, ◌++◌, ℕ, ◌+◌, ◌-◌, ◌≤◌, ◌<◌, min, length, get_or, set, take, drop}
use Rattle.std.proofs.Common.{sym, ap, ◌∙◌, inl, inr, arith, length-take, length-drop, length-set, ext_get_or, get_or-take, get_or-drop, get_or-append-add, get_or-set_other, take_at, drop_at}
use Rattle.std.proofs.Math.ListN.{get_or-append}
use borrow.Rule.Slice.PartMut.{put_mid, mid_of, post_of, same_len_mid}

pub record Elsewhere (ws ws' : List ℕ) (a k : ℕ) : Type 0 where
  pub long : length ws' ≡ length ws
  pub kept : (i : ℕ) → (i < a) ⊎ (a + k ≤ i) → get_or ws' i 0 ≡ get_or ws i 0

pub window : {ws ws' : List ℕ} {a k : ℕ} → Elsewhere ws ws' a k → (b n : ℕ) → (b + n ≤ a) ⊎ (a + k ≤ b) → take n (drop b ws') ≡ take n (drop b ws)
window {ws} {ws'} {a} {k} e b n away = ext_get_or 0 (take n (drop b ws')) (take n (drop b ws)) long same
  where
    long : length (take n (drop b ws')) ≡ length (take n (drop b ws))
    long = length-take n (drop b ws') ∙ ap (λ (z : ℕ). min n z) (length-drop b ws' ∙ ap (λ (z : ℕ). z - b) e.long ∙ sym (length-drop b ws))
        ∙ sym (length-take n (drop b ws))

    apart : (i : ℕ) → i < n → (b + n ≤ a) ⊎ (a + k ≤ b) → (b + i < a) ⊎ (a + k ≤ b + i)
    apart i h (inl q) = inl (omega arith)
    apart i h (inr q) = inr (omega arith)

    get : (l : List ℕ) (i : ℕ) → i < n → get_or (take n (drop b l)) i 0 ≡ get_or l (b + i) 0
    get l i h = get_or-take n (drop b l) i 0 h ∙ get_or-drop b l i 0

    same : (i : ℕ) → i < length (take n (drop b ws')) → get_or (take n (drop b ws')) i 0 ≡ get_or (take n (drop b ws)) i 0
    same i h = let l : i < n = omega (arith, length-take n (drop b ws')) in get ws' i l ∙ e.kept (b + i) (apart i l away) ∙ sym (get ws i l)

pub one_word : (ws : List ℕ) (i x : ℕ) → Elsewhere ws (set ws i x) i 1
one_word ws i x = record { long = length-set ws i x; kept = λ j h. get_or-set_other ws i j x 0 (not_it j h) }
  where
    not_it : (j : ℕ) → (j < i) ⊎ (i + 1 ≤ j) → ¬ (j ≡ i)
    not_it j (inl h) e = omega arith
    not_it j (inr h) e = omega arith

module _ (a k : ℕ) (ws ys : List ℕ) (room : a + k ≤ length ws) (fits : length ys ≡ k) where
  front_long : length (take a ws) ≡ a
  front_long = omega (arith, length-take a ws)

  mid_long : length ys ≡ length (mid_of a k ws)
  mid_long = fits ∙ omega (arith, length-take k (drop a ws), length-drop a ws)

  pub part_is : take k (drop a (put_mid a k ws ys)) ≡ ys
  part_is = ap (take k) (drop_at (take a ws) (ys ++ post_of a k ws) a front_long) ∙ take_at ys (post_of a k ws) k fits

  pub one_part : Elsewhere ws (put_mid a k ws ys) a k
  one_part = record { long = same_len_mid a k ws ys mid_long; kept = kept }
    where
      before : (i : ℕ) → i < a → get_or (put_mid a k ws ys) i 0 ≡ get_or ws i 0
      before i h = get_or-append (take a ws) (ys ++ post_of a k ws) 0 i (omega (arith, front_long)) ∙ get_or-take a ws i 0 h

      behind : (i : ℕ) → get_or (put_mid a k ws ys) (a + (k + i)) 0 ≡ get_or ws (a + (k + i)) 0
      behind i =
          ap (λ (z : ℕ). get_or (put_mid a k ws ys) (z + (k + i)) 0) (sym front_long) ∙ get_or-append-add (take a ws) (ys ++ post_of a k ws) (k + i) 0
          ∙ ap (λ (z : ℕ). get_or (ys ++ post_of a k ws) (z + i) 0) (sym fits) ∙ get_or-append-add ys (post_of a k ws) i 0
          ∙ get_or-drop k (drop a ws) i 0 ∙ get_or-drop a ws (k + i) 0

      kept : (i : ℕ) → (i < a) ⊎ (a + k ≤ i) → get_or (put_mid a k ws ys) i 0 ≡ get_or ws i 0
      kept i (inl h) = before i h
      kept i (inr h) = let e : i ≡ a + (k + (i - (a + k))) = omega arith in ap (λ (z : ℕ). get_or (put_mid a k ws ys) z 0) e ∙ behind (i - (a + k))
          ∙ ap (λ (z : ℕ). get_or ws z 0) (sym e)

-- the first part, which has nothing before it
pub front_part : (k : ℕ) (ws ys : List ℕ) → k ≤ length ws → length ys ≡ k → Elsewhere ws (ys ++ drop k ws) 0 k
front_part k ws ys room fits = one_part 0 k ws ys (omega arith) fits

pub front_is : (k : ℕ) (ws ys : List ℕ) → length ys ≡ k → take k (ys ++ drop k ws) ≡ ys
front_is k ws ys fits = take_at ys (drop k ws) k fits
