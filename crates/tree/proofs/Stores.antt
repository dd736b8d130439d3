-- One word stored writes a node or puts a link; one bit stored marks a node or clears it
use mathlib.Core.Path.{◌≡◌, refl, sym, ap, ◌∙◌, subst}
use mathlib.Core.List.{List, ◌++◌}
use Prim.Native.Nat.{ℕ, zero, suc, ◌+◌, ◌-◌, ◌*◌, ◌≤◌, ◌<◌}
use native.Mathlib.Omega.{arith}
use native.Mathlib.Decide.{ℕ_discrete}
use lib.Dec.{eqb}
use lib.ListN.{length, get_or, set, take, drop}
use lib.Seq.{get_or-set_same, get_or-set_other, take-set-le, take_at, get_or-append-add, get_or-drop}
use native.Mathlib.Nat.{suc_inj}
use Rattle.layout.specs.Layout.{map_words, links_at, nodes_at, last_link, tree_words}
use Rattle.bits.specs.Packed.{bits}
use Rattle.shape.specs.Shape.{Hook, child, after, to}
use Rattle.shape.specs.Effects.{Leads, Flips, Writes}
use Rattle.shape.specs.Tally.{marked}
use Rattle.shape.specs.Tallies.{mark_here, mark_other}
use Rattle.links.specs.Words.{cell_of, parent_of, first_of, next_of, word, shape, hook, Node}
use Rattle.links.specs.Limits.{map_long}

-- ---- numbers and hooks that fit

-- the word of a node, as the code reads it
pub node_word : (ws : List ℕ) (n : ℕ) → get_or ws (nodes_at + n) 0 ≡ word ws (suc n)
node_word ws n = let e : nodes_at + n ≡ links_at + suc n = omega arith in ap (λ (k : ℕ). get_or ws k 0) e

-- ---- the word w at the link q

module _ (ws : List ℕ) (size : length ws ≡ tree_words) (q : ℕ) (hq : q ≤ last_link) (w : ℕ) where
  at_q : word (set ws (links_at + q) w) q ≡ w
  at_q = get_or-set_same ws (links_at + q) w 0 (omega arith)

  at_other : (l : ℕ) → ¬ (l ≡ q) → word (set ws (links_at + q) w) l ≡ word ws l
  at_other l h = get_or-set_other ws (links_at + q) (links_at + l) w 0 (omega arith)

  -- a field that the new word keeps is kept everywhere
  kept : (f : ℕ → ℕ) → f w ≡ f (word ws q) → (l : ℕ) → f (word (set ws (links_at + q) w) l) ≡ f (word ws l)
  kept f e l = go (ℕ_discrete l q)
    where
      go : Dec (l ≡ q) → f (word (set ws (links_at + q) w) l) ≡ f (word ws l)
      go (yes d) = ap (λ (k : ℕ). f (word (set ws (links_at + q) w) k)) d ∙ ap f at_q ∙ e ∙ ap (λ (k : ℕ). f (word ws k)) (sym d)
      go (no d) = ap f (at_other l d)

  used_kept : (y : ℕ) → (shape (set ws (links_at + q) w)).used y ≡ (shape ws).used y
  used_kept y = ap (λ (l : List ℕ). marked l y) (take-set-le map_words ws (links_at + q) w (omega arith))

  put_first : (x : ℕ) → Node w (cell_of (word ws q)) (parent_of (word ws q)) x (next_of (word ws q)) → Leads (shape ws) (shape (set ws (links_at + q) w)) (child q) x
  put_first x n = record
      { here = ap first_of at_q ∙ n.first; used = used_kept; cell = λ y. kept cell_of n.cell (suc y); parent = λ y. kept parent_of n.parent (suc y); others = others }
    where
      others : (z : Hook) → ¬ (z ≡ child q) → to (shape (set ws (links_at + q) w)) z ≡ to (shape ws) z
      others (child l) h = ap first_of (at_other l (λ d. h (ap child d)))
      others (after y) h = kept next_of n.next (suc y)

  put_after : (k x : ℕ) → q ≡ suc k → Node w (cell_of (word ws q)) (parent_of (word ws q)) (first_of (word ws q)) x
      → Leads (shape ws) (shape (set ws (links_at + q) w)) (after k) x
  put_after k x e n = record {
    here = ap (λ (b : ℕ). next_of (word (set ws (links_at + q) w) b)) (sym e) ∙ ap next_of at_q ∙ n.next;
    used = used_kept;
    cell = λ y. kept cell_of n.cell (suc y);
    parent = λ y. kept parent_of n.parent (suc y);
    others = others;
  }
    where
      others : (z : Hook) → ¬ (z ≡ after k) → to (shape (set ws (links_at + q) w)) z ≡ to (shape ws) z
      others (child l) h = kept first_of n.first l
      others (after y) h = ap next_of (at_other (suc y) (λ d. h (ap after (suc_inj (d ∙ e)))))

  write : (n c p x : ℕ) → q ≡ suc n → Node w c p 0 x → Writes (shape ws) (shape (set ws (links_at + q) w)) n c p x
  write n c p x e d = record {
    cell = ap cell_of at_n ∙ d.cell;
    parent = ap parent_of at_n ∙ d.parent;
    next = ap next_of at_n ∙ d.next;
    first = ap first_of at_n ∙ d.first;
    used = used_kept;
    cells = λ y h. ap cell_of (other y h);
    parents = λ y h. ap parent_of (other y h);
    hooks = hooks;
  }
    where
      at_n : word (set ws (links_at + q) w) (suc n) ≡ w
      at_n = ap (word (set ws (links_at + q) w)) (sym e) ∙ at_q

      other : (y : ℕ) → ¬ (y ≡ n) → word (set ws (links_at + q) w) (suc y) ≡ word ws (suc y)
      other y h = at_other (suc y) (λ d. h (suc_inj (d ∙ e)))

      hooks : (z : Hook) → ¬ (z ≡ after n) → ¬ (z ≡ child (suc n)) → to (shape (set ws (links_at + q) w)) z ≡ to (shape ws) z
      hooks (child l) a b = ap first_of (at_other l (λ d. b (ap child (d ∙ e))))
      hooks (after y) a b = ap next_of (other y (λ d. a (ap after d)))

-- as the code has it
module _ (ws : List ℕ) (size : length ws ≡ tree_words) (p b : ℕ) where
  pub puts_first : b ≡ 0 → p ≤ last_link → (w x : ℕ) → Node w (cell_of (word ws p)) (parent_of (word ws p)) x (next_of (word ws p))
      → Leads (shape ws) (shape (set ws (links_at + p) w)) (hook p b) x
  puts_first e hp w x n = go b e
    where
      go : (b : ℕ) → b ≡ 0 → Leads (shape ws) (shape (set ws (links_at + p) w)) (hook p b) x
      go zero e = put_first ws size p hp w x n
      go (suc k) e = absurd (omega arith)

  pub puts_after : ¬ (b ≡ 0) → b ≤ last_link → (w x : ℕ) → Node w (cell_of (word ws b)) (parent_of (word ws b)) (first_of (word ws b)) x
      → Leads (shape ws) (shape (set ws (links_at + b) w)) (hook p b) x
  puts_after h hb w x n = go b refl
    where
      go : (c : ℕ) → b ≡ c → Leads (shape ws) (shape (set ws (links_at + b) w)) (hook p c) x
      go zero e = absurd (h e)
      go (suc k) e = put_after ws size b hb w k x e n

pub writes : (ws : List ℕ) → length ws ≡ tree_words → (n : ℕ) → n < last_link → (w c p x : ℕ) → Node w c p 0 x → Writes (shape ws) (shape (set ws (nodes_at + n) w)) n c p x
writes ws size n hn w c p x d =
    let e : links_at + suc n ≡ nodes_at + n = omega arith in
    subst (λ (k : ℕ). Writes (shape ws) (shape (set ws k w)) n c p x) e (write ws size (suc n) hn w n c p x refl d)

-- ---- the bit v of the node n

pub flips : (ws map : List ℕ) (n v : ℕ) → length ws ≡ tree_words → n < last_link → length map ≡ length (take map_words ws) → bits map ≡ set (bits (take map_words ws)) n v
    → Flips (shape ws) (shape (map ++ drop map_words ws)) n (eqb v 1)
flips ws map n v size hn same e = record {
  here = front n ∙ mark_here (take map_words ws) map n v low e;
  used = λ y h. front y ∙ mark_other (take map_words ws) map n v low e y h;
  cell = λ y. ap cell_of (word_is (suc y));
  parent = λ y. ap parent_of (word_is (suc y));
  hooks = hooks;
}
  where
    long : length map ≡ map_words
    long = same ∙ map_long ws size

    low : n < 64 * length (take map_words ws)
    low = omega (arith, map_long ws size)

    front : (y : ℕ) → (shape (map ++ drop map_words ws)).used y ≡ marked map y
    front y = ap (λ (l : List ℕ). marked l y) (take_at map (drop map_words ws) map_words long)

    word_is : (l : ℕ) → word (map ++ drop map_words ws) l ≡ word ws l
    word_is l =
        let k : ℕ = links_at - map_words + l in
        let e : links_at + l ≡ length map + k = omega (arith, long) in
        let f : map_words + k ≡ links_at + l = omega arith in
        ap (λ (j : ℕ). get_or (map ++ drop map_words ws) j 0) e ∙ get_or-append-add map (drop map_words ws) k 0 ∙ get_or-drop map_words ws k 0 ∙ ap (λ (j : ℕ). get_or ws j 0) f

    hooks : (z : Hook) → to (shape (map ++ drop map_words ws)) z ≡ to (shape ws) z
    hooks (child l) = ap first_of (word_is l)
    hooks (after y) = ap next_of (word_is (suc y))
