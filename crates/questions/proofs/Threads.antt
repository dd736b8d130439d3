-- The links of a passing book's tree lead to nodes in use, and a walk along siblings comes to its end.
use mathlib.Core.Path.{◌≡◌, sym, ap, ◌∙◌, subst}
use mathlib.Core.List.{List}
use Prim.Native.Nat.{ℕ, suc, ◌+◌, ◌-◌, ◌^◌, ◌≤◌, ◌<◌}
use native.Mathlib.Omega.{arith}
use native.Mathlib.Decide.{dec_lt}
use lib.ListN.{length, get_or, take, length-take, get_or-eq_default}
use lib.Seq.{get_or-take}
use Rattle.layout.specs.Layout.{links_at, last_link, tree_words, book_words}
use Rattle.shape.specs.Shape.{after, Used, Tree}
use Rattle.links.specs.Words.{cell_of, next_of, word}
use Rattle.shape.specs.Rows.{passes_tree}
use Rattle.shape.specs.Trie.{trie, Bounded}
use Rattle.shape.specs.Unfolded.{opens}
use Rattle.shape.specs.Search.{size}
use Rattle.links.specs.Limits.{used_low, bounded}
use Rattle.shape.specs.Leaves.{rows_short}
use Rattle.book.specs.Memory.{view, Passing}
use Rattle.book.specs.Holding.{hanging}
use Rattle.questions.specs.Promises.{Threaded}

module _ (ws : List ℕ) (p : Passing ws) where
  abbrev pub tree : Tree (view ws).tree
  tree = passes_tree p.right.tree

  tree_long : length (take tree_words ws) ≡ tree_words
  tree_long = omega (arith, length-take tree_words ws, p.size)

  pub low : (n : ℕ) → Used (view ws).tree n → n < last_link
  low n u = used_low (take tree_words ws) tree_long n u

  pub bound : ((i : ℕ) → get_or ws i 0 < 2 ^ 64) → Bounded (view ws).tree
  bound all = bounded (take tree_words ws) tree_long (λ l. words (links_at + l)) _ p.right.tree (rows_short (hanging (view ws) low p.right))
    where
      words : (i : ℕ) → get_or (take tree_words ws) i 0 < 2 ^ 64
      words i = go (dec_lt i tree_words)
        where
          go : Dec (i < tree_words) → get_or (take tree_words ws) i 0 < 2 ^ 64
          go (yes h) = subst (λ (x : ℕ). x < 2 ^ 64) (sym (get_or-take tree_words ws i 0 h)) (all i)
          go (no h) = subst (λ (x : ℕ). x < 2 ^ 64) (sym (get_or-eq_default (take tree_words ws) 0 (omega (arith, tree_long)))) (lib.Dec.lit< tt)

  -- the word of a used node
  pub word_of : (n : ℕ) → Used (view ws).tree n → word (take tree_words ws) (suc n) ≡ get_or ws (links_at + suc n) 0
  word_of n u = let l = low n u in get_or-take tree_words ws (links_at + suc n) 0 (omega arith)

  next_is : (n : ℕ) → Used (view ws).tree n → (view ws).tree.next n ≡ next_of (get_or ws (links_at + suc n) 0)
  next_is n u = ap next_of (word_of n u)

  pub next_used : (n : ℕ) → Used (view ws).tree n → (y : ℕ) → next_of (get_or ws (links_at + suc n) 0) ≡ suc y → Used (view ws).tree y
  next_used n u y e = (tree.goes (after n) u (next_is n u ∙ e)).used

  -- siblings ascend
  pub next_above : (n : ℕ) → Used (view ws).tree n → (y : ℕ) → next_of (get_or ws (links_at + suc n) 0) ≡ suc y
      → cell_of (get_or ws (links_at + suc n) 0) < cell_of (get_or ws (links_at + suc y) 0)
  next_above n u y e =
      let f = tree.goes (after n) u (next_is n u ∙ e) in
      let a = f.above in
      omega (arith, ap cell_of (word_of n u), ap cell_of (word_of y f.used))

  pub next_less : ((i : ℕ) → get_or ws i 0 < 2 ^ 64) → (n : ℕ) → Used (view ws).tree n
      → size (trie (view ws).tree (next_of (get_or ws (links_at + suc n) 0))) < size (trie (view ws).tree (suc n))
  next_less all n u =
      let o = ap size (opens (view ws).tree tree (bound all) n u) in
      let e = ap (λ (x : ℕ). size (trie (view ws).tree x)) (next_is n u) in
      omega (arith, o, e)

-- along siblings
module _ (ws : List ℕ) (x : ℕ) (t : Threaded ws x) (some : ¬ (x ≡ 0)) where
  n : ℕ
  n = x - 1

  is : x ≡ suc n
  unfolding n
  is = omega arith

  pub in_tree : x ≤ last_link
  in_tree = let l = low ws t.passing n (t.used n is) in omega (arith, is)

  pub beside_threaded : Threaded ws (next_of (get_or ws (links_at + x) 0))
  beside_threaded = record {
    passing = t.passing;
    used = λ y e. next_used ws t.passing n (t.used n is) y (ap (λ (k : ℕ). next_of (get_or ws (links_at + k) 0)) (sym is) ∙ e);
  }

  pub beside_smaller : ((i : ℕ) → get_or ws i 0 < 2 ^ 64) → size (trie (view ws).tree (next_of (get_or ws (links_at + x) 0))) < size (trie (view ws).tree x)
  beside_smaller all =
      subst (λ (k : ℕ). size (trie (view ws).tree (next_of (get_or ws (links_at + k) 0))) < size (trie (view ws).tree k)) (sym is)
      (next_less ws t.passing all n (t.used n is))

  pub beside_above : ¬ (next_of (get_or ws (links_at + x) 0) ≡ 0) → cell_of (get_or ws (links_at + x) 0) < cell_of (get_or ws (links_at + next_of (get_or ws (links_at + x) 0)) 0)
  beside_above nz =
      let y : ℕ = next_of (get_or ws (links_at + x) 0) - 1 in
      let ey : next_of (get_or ws (links_at + x) 0) ≡ suc y = omega arith in
      subst (λ (k : ℕ). cell_of (get_or ws (links_at + x) 0) < cell_of (get_or ws (links_at + k) 0)) (sym ey)
      (subst (λ (k : ℕ). cell_of (get_or ws (links_at + k) 0) < cell_of (get_or ws (links_at + suc y) 0)) (sym is)
      (next_above ws t.passing n (t.used n is) y (ap (λ (k : ℕ). next_of (get_or ws (links_at + k) 0)) (sym is) ∙ ey)))

-- a node's word lies in the memory
pub inside : {ws : List ℕ} {x : ℕ} → Threaded ws x → ¬ (x ≡ 0) → (length ws ≡ book_words) × (x ≤ last_link)
inside {ws} {x} t some = (t.passing.size, in_tree ws x t some)
