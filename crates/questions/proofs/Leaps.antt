-- A sibling further on is reached from sibling to sibling, and between the two there is no cell that may not be passed.
use mathlib.Core.Path.{◌≡◌, refl, sym, ap, ◌∙◌, subst}
use mathlib.Core.Logic.{◌⊎◌, inl, inr}
use mathlib.Core.List.{List}
use Prim.Native.Nat.{ℕ, zero, suc, ◌+◌, ◌^◌, ◌≤◌, ◌<◌}
use native.Mathlib.Omega.{arith}
use lib.ListN.{get_or}
use Rattle.layout.specs.Layout.{links_at}
use Rattle.shape.specs.Shape.{after, Used}
use Rattle.shape.specs.Order.{ahead}
use Rattle.links.specs.Words.{cell_of, parent_of, next_of}
use Rattle.shape.specs.Trie.{trie}
use Rattle.shape.specs.Search.{size}
use Rattle.book.specs.Memory.{view, Passing}
use Rattle.questions.specs.Promises.{PassesBy, pass_on, Reach, Threaded}
use Rattle.questions.proofs.Threads.{tree, word_of, next_used, next_less}
use Rattle.links.specs.Siblings.{Further}

-- x is passed by, r comes next, and there is less of the tree behind it
pub record Leapt (ws : List ℕ) (cell link x r : ℕ) : Type 0 where
  pub threaded : Threaded ws r
  pub by : PassesBy ws cell link r
  pub less : size (trie (view ws).tree r) < size (trie (view ws).tree x)

module _ (ws : List ℕ) (p : Passing ws) (all : (i : ℕ) → get_or ws i 0 < 2 ^ 64) (cell link low b : ℕ) (ub : Used (view ws).tree b) (free : (d : ℕ) → low ≤ d → d < (view ws).tree.cell b → (d < 32768) × ¬ (d ≡ cell)) where
  cell_is : (k : ℕ) → Used (view ws).tree k → (view ws).tree.cell k ≡ cell_of (get_or ws (links_at + suc k) 0)
  cell_is k u = ap cell_of (word_of ws p k u)

  next_is : (k : ℕ) → Used (view ws).tree k → (view ws).tree.next k ≡ next_of (get_or ws (links_at + suc k) 0)
  next_is k u = ap next_of (word_of ws p k u)

  -- from k, which has the parent of b and a cell below its
  along : (n k : ℕ) → Used (view ws).tree k → (view ws).tree.parent b ≡ (view ws).tree.parent k → low ≤ (view ws).tree.cell k
      → (view ws).tree.cell k < (view ws).tree.cell b → (view ws).tree.cell b ≤ (view ws).tree.cell k + n
      → PassesBy ws cell link (suc k) → PassesBy ws cell link (suc b) × (size (trie (view ws).tree (suc b)) < size (trie (view ws).tree (suc k)))
  along zero k u e l h f by = absurd (omega arith)
  along (suc n) k u e l h f by = go (λ j uj ej lj hj fj bj. along n j uj ej lj hj fj bj) q.2
    where
      q : (j : ℕ) × ((view ws).tree.next k ≡ suc j) × ((j ≡ b) ⊎ ((view ws).tree.cell j < (view ws).tree.cell b))
      q = ahead (view ws).tree (tree ws p) (after k) u b ub e (omega arith)

      passed : PassesBy ws cell link (suc q.0)
      passed =
          let g = free ((view ws).tree.cell k) l h in
          subst (PassesBy ws cell link) (sym (next_is k u) ∙ q.1)
          (pass_on by (λ z. omega arith) (subst (λ (d : ℕ). d < 32768) (cell_is k u) g.0) (λ z. g.1 (cell_is k u ∙ z)))

      less : size (trie (view ws).tree (suc q.0)) < size (trie (view ws).tree (suc k))
      less = subst (λ (x : ℕ). size (trie (view ws).tree x) < size (trie (view ws).tree (suc k))) (sym (next_is k u) ∙ q.1) (next_less ws p all k u)

      go : ((j : ℕ) → Used (view ws).tree j → (view ws).tree.parent b ≡ (view ws).tree.parent j → low ≤ (view ws).tree.cell j → (view ws).tree.cell j < (view ws).tree.cell b → (view ws).tree.cell b ≤ (view ws).tree.cell j + n
          → PassesBy ws cell link (suc j) → PassesBy ws cell link (suc b) × (size (trie (view ws).tree (suc b)) < size (trie (view ws).tree (suc j))))
          → (q.0 ≡ b) ⊎ ((view ws).tree.cell q.0 < (view ws).tree.cell b) → PassesBy ws cell link (suc b)
          × (size (trie (view ws).tree (suc b)) < size (trie (view ws).tree (suc k)))
      go ih (inl z) = (
        subst (λ (j : ℕ). PassesBy ws cell link (suc j)) z passed,
        subst
            (λ (j : ℕ). size (trie (view ws).tree (suc j)) < size (trie (view ws).tree (suc k))) z less,
      )
      go ih (inr z) =
          let g = (tree ws p).goes (after k) u q.1 in
          let r = ih q.0 g.used (e ∙ sym g.under) (let a = g.above in omega arith) z (let a = g.above in omega arith) passed in
          (r.0, let s = r.1 in let t = less in omega arith)

-- up to the cell wanted there is nothing that may not be passed
pub up_to_it : (cell c : ℕ) → cell < 32768 → Reach cell c cell
up_to_it cell c low = record { low = omega arith; between = λ k l h e. omega arith }

-- a sign that leads further on
pub leaps : {ws : List ℕ} {cell link x most r c : ℕ} → Threaded ws x → ¬ (x ≡ 0) → ((i : ℕ) → get_or ws i 0 < 2 ^ 64)
    → c ≡ cell_of (get_or ws (links_at + x) 0) → Reach cell c most → Further (view ws).tree (get_or ws (links_at + x) 0) most r
    → PassesBy ws cell link x → Leapt ws cell link x r
leaps {x = zero} t n all ec reach f by = absurd (n refl)
leaps {ws = ws} {cell = cell} {link = link} {x = suc k} {c = c} t n all ec reach f by =
    subst (Leapt ws cell link (suc k)) (sym f.leads)
    (record {
      threaded = record {
        passing = t.passing;
        used = λ y e. subst (Used (view ws).tree) (let z : f.node ≡ y = omega arith in z)
            f.used;
      };
      by = w.0;
      less = w.1;
    })
  where
    u : Used (view ws).tree k
    u = t.used k refl

    same : (view ws).tree.cell k ≡ c
    same = ap cell_of (word_of ws t.passing k u) ∙ sym ec

    w : PassesBy ws cell link (suc f.node) × (size (trie (view ws).tree (suc f.node)) < size (trie (view ws).tree (suc k)))
    w = along ws t.passing all cell link c f.node f.used (λ d l h. let m = f.near in let z = reach.low in (omega arith, reach.between d l (omega arith)))
        ((view ws).tree.cell f.node) k u (f.beside ∙ sym (ap parent_of (word_of ws t.passing k u))) (omega (arith, same))
        (let h = f.further in omega (arith, same, ec)) (omega arith) by

-- the next sibling, where it is passed by
pub steps : {ws : List ℕ} {cell link x r c : ℕ} → Threaded ws x → ¬ (x ≡ 0) → ((i : ℕ) → get_or ws i 0 < 2 ^ 64)
    → c ≡ cell_of (get_or ws (links_at + x) 0) → c < 32768 → ¬ (c ≡ cell) → r ≡ next_of (get_or ws (links_at + x) 0) → PassesBy ws cell link x → Leapt ws cell link x r
steps {x = zero} t n all ec l d e by = absurd (n refl)
steps {ws = ws} {cell = cell} {link = link} {x = suc k} t n all ec l d e by = subst (Leapt ws cell link (suc k)) (sym e) (record {
  threaded = record { passing = t.passing; used = λ y q. next_used ws t.passing k (t.used k refl) y q };
  by = pass_on by n (subst (λ (z : ℕ). z < 32768) ec l) (λ q. d (ec ∙ q));
  less = next_less ws t.passing all k (t.used k refl);
})
