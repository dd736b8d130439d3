-- What stores do to the view: a record written changes its own place and nothing else, and a changed tree nothing but the tree.
use mathlib.Core.Path.{◌≡◌, sym, ap, ◌∙◌, subst}
use mathlib.Core.Logic.{◌⊎◌, inl, inr}
use mathlib.Core.List.{List, ◌++◌}
use Prim.Native.Nat.{ℕ, ◌+◌, ◌-◌, ◌*◌, ◌≤◌, ◌<◌}
use native.Mathlib.Omega.{arith}
use native.Mathlib.Decide.{dec_lt}
use lib.ListN.{length, get_or, set, take, drop, replicate, length-take, length-drop, length-set}
use lib.Seq.{get_or-set_same, get_or-set_other}
use borrow.Rule.Slice.PartMut.{put_mid}
use Rattle.layout.specs.Layout.{rule_numbers, rules_limit, tree_words, places_at, place_words, term_words, record_words, records_at, terms_at, book_words}
use Rattle.bits.specs.Packed.{fields}
use Rattle.links.specs.Words.{shape}
use Rattle.book.specs.Rules.{Rule}
use Rattle.book.specs.Memory.{view}
use Rattle.change.specs.Promises.{Stores}
use Rattle.book.specs.Filling.{fields_long}
use Rattle.book.specs.Parts.{Elsewhere, window, one_word, part_is, one_part}

-- the memory keeps its length, and a record is inside it
pub two_long : (ws p : List ℕ) (i n : ℕ) → length ws ≡ book_words → length p ≡ place_words → length (set (put_mid places_at place_words ws p) i n) ≡ book_words
two_long ws p i n size lp = length-set (put_mid places_at place_words ws p) i n ∙ (one_part places_at place_words ws p (omega arith) lp).long ∙ size

pub term_long : (ws : List ℕ) (a w : ℕ) → w ≡ term_words → a + term_words ≤ length ws → length (take w (drop a ws)) ≡ term_words
term_long ws a w e h = omega (arith, length-take w (drop a ws), length-drop a ws)

-- two places are apart
sides : (j r : ℕ) → ¬ (j ≡ r) → (j < r) ⊎ (r < j)
sides j r d = go (dec_lt j r)
  where
    go : Dec (j < r) → (j < r) ⊎ (r < j)
    go (yes h) = inl h
    go (no h) = inr (omega arith)

module _ (ws p q : List ℕ) (k r n : ℕ) (it : Rule) (size : length ws ≡ book_words) (hr : r < rules_limit) (hk : k < rule_numbers)
    (lp : length p ≡ place_words) (fp : fields p ≡ set (fields (take place_words (drop places_at ws))) k r) (ln : n ≡ length it.term) (w : ℕ) (ew : w ≡ term_words)
    (lq : length q ≡ term_words) (fq : fields q ≡ it.term ++ replicate (32 - length it.term) 0) where
  abbrev pub ws₁ : List ℕ
  ws₁ = put_mid places_at place_words ws p

  abbrev pub at : ℕ
  at = terms_at + record_words * r

  abbrev pub ws₂ : List ℕ
  ws₂ = set ws₁ (at - 1) n

  one : Elsewhere ws ws₁ places_at place_words
  one = one_part places_at place_words ws p (omega arith) lp

  two : Elsewhere ws₁ ws₂ (at - 1) 1
  two = one_word ws₁ (at - 1) n

  long₂ : length ws₂ ≡ book_words
  long₂ = two.long ∙ one.long ∙ size

  three : Elsewhere ws₂ (put_mid at w ws₂ q) at term_words
  three = subst (λ (z : ℕ). Elsewhere ws₂ (put_mid at z ws₂ q) at term_words) (sym ew) (one_part at term_words ws₂ q (omega (arith, long₂)) lq)

  -- a word or a window that none of the three stores meets
  sizes : (j : ℕ) → ¬ (j ≡ r) → get_or (put_mid at w ws₂ q) (records_at + record_words * j) 0 ≡ get_or ws (records_at + record_words * j) 0
  sizes j d = three.kept (records_at + record_words * j) (away (sides j r d)) ∙ two.kept (records_at + record_words * j) (off (sides j r d))
      ∙ one.kept (records_at + record_words * j) (inr (omega arith))
    where
      away : (j < r) ⊎ (r < j) → (records_at + record_words * j < terms_at + record_words * r) ⊎ (terms_at + record_words * r + term_words ≤ records_at + record_words * j)
      away (inl h) = inl (omega arith)
      away (inr h) = inr (omega arith)

      off : (j < r) ⊎ (r < j) → (records_at + record_words * j < terms_at + record_words * r - 1) ⊎ (terms_at + record_words * r - 1 + 1 ≤ records_at + record_words * j)
      off (inl h) = inl (omega arith)
      off (inr h) = inr (omega arith)

  cellss : (j : ℕ) → ¬ (j ≡ r) → take term_words (drop (terms_at + record_words * j) (put_mid at w ws₂ q)) ≡ take term_words (drop (terms_at + record_words * j) ws)
  cellss j d = window three (terms_at + record_words * j) term_words (away (sides j r d))
      ∙ window two (terms_at + record_words * j) term_words (off (sides j r d)) ∙ window one (terms_at + record_words * j) term_words (inr (omega arith))
    where
      away : (j < r) ⊎ (r < j) → (terms_at + record_words * j + term_words ≤ terms_at + record_words * r) ⊎ (terms_at + record_words * r + term_words ≤ terms_at + record_words * j)
      away (inl h) = inl (omega arith)
      away (inr h) = inr (omega arith)

      off : (j < r) ⊎ (r < j) → (terms_at + record_words * j + term_words ≤ terms_at + record_words * r - 1) ⊎ (terms_at + record_words * r - 1 + 1 ≤ terms_at + record_words * j)
      off (inl h) = inl (omega arith)
      off (inr h) = inr (omega arith)

  places : take place_words (drop places_at (put_mid at w ws₂ q)) ≡ p
  places = window three places_at place_words (inl (omega arith)) ∙ window two places_at place_words (inl (omega arith)) ∙ part_is places_at place_words ws p (omega arith) lp

  tree : take tree_words (put_mid at w ws₂ q) ≡ take tree_words ws
  tree = window three 0 tree_words (inl (omega arith)) ∙ window two 0 tree_words (inl (omega arith)) ∙ window one 0 tree_words (inl (omega arith))

  size_is : get_or (put_mid at w ws₂ q) (records_at + record_words * r) 0 ≡ length it.term
  size_is =
      three.kept (records_at + record_words * r) (inl (omega arith))
      ∙ ap (λ (z : ℕ). get_or ws₂ z 0) e ∙ get_or-set_same ws₁ (at - 1) n 0 (omega (arith, one.long)) ∙ ln
    where
      e : records_at + record_words * r ≡ terms_at + record_words * r - 1
      e = omega arith

  cells_are : take term_words (drop (terms_at + record_words * r) (put_mid at w ws₂ q)) ≡ q
  cells_are = subst (λ (z : ℕ). take term_words (drop (terms_at + record_words * r) (put_mid at z ws₂ q)) ≡ q) (sym ew)
      (part_is (terms_at + record_words * r) term_words ws₂ q (omega (arith, long₂)) lq)

  places_long : k < length (fields (take place_words (drop places_at ws)))
  places_long = omega (arith, fields_long (take place_words (drop places_at ws)), length-take place_words (drop places_at ws), length-drop places_at ws)

  pub stored : Stores (view ws) (view (put_mid at w ws₂ q)) k r it
  stored = record {
    tree = ap shape tree;
    to_place = ap (λ (z : List ℕ). get_or (fields z) k 0) places ∙ ap (λ (z : List ℕ). get_or z k 0) fp
        ∙ get_or-set_same (fields (take place_words (drop places_at ws))) k r 0 places_long;
    places = λ j d. ap (λ (z : List ℕ). get_or (fields z) j 0) places ∙ ap (λ (z : List ℕ). get_or z j 0) fp
        ∙ get_or-set_other (fields (take place_words (drop places_at ws))) k j r 0 d;
    size = size_is;
    sizes = sizes;
    cells = ap fields cells_are ∙ fq;
    cellss = λ j d. ap fields (cellss j d);
  }
