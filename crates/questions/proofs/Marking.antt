-- At the question's end all siblings are rules that answer, and nothing below them is to be found.
use mathlib.Core.Path.{◌≡◌, refl, sym, ap, ap₂, ◌∙◌, subst}
use mathlib.Core.Logic.{◌⊎◌, inl, inr}
use mathlib.Core.List.Memᴰ
use mathlib.Core.List.{List, [], ◌∷◌, ◌++◌, append-nil, append_assoc, Memᴰ}
use mathlib.Core.Bool.{Bool, true}
use Prim.Native.Nat.{ℕ, zero, suc, ◌+◌, ◌^◌, ◌≤◌, ◌<◌}
use native.Mathlib.Omega.{arith}
use native.Mathlib.Decide.{ℕ_discrete}
use lib.ListN.{length, get_or, drop}
use Rattle.layout.specs.Layout.{rule_numbers, links_at}
use Rattle.bits.specs.Numbers.{has, Member, NumberSet, PutsNumber}
use Rattle.term.specs.Cells.{Row, Blank, blank_of, blank_form}
use Rattle.term.specs.Machine.{State, at, step, done}
use Rattle.shape.specs.Shape.{Shape}
use Rattle.links.specs.Words.{cell_of, next_of}
use Rattle.shape.specs.Trie.{Trie, tip, node, trie}
use Rattle.shape.specs.Search.{keep, hits}
use Rattle.book.specs.Memory.{view}
use Rattle.questions.specs.declared.Point.{Point}
use Rattle.questions.specs.Walk.{reading, on_done, next, good, listed_none}
use Rattle.questions.specs.Promises.{Threaded, size_at, hits_at, Ready, Marked, beside, siblings, RulesBeside}
use Rattle.questions.proofs.Leaving.{n, cell_is, opened, sizes, tip_at}
use Rattle.questions.proofs.Threads.{beside_threaded}

-- ---- the marks

-- no node
pub marks_none : {ws marks : List ℕ} → NumberSet marks → Marked ws marks marks []
marks_none {ws} {marks} s = record { map = s; marks_are = λ k. ((λ x. inl x), of k) }
  where
    of : (k : ℕ) → Member marks k ⊎ ((n : ℕ) × Memᴰ n [] × ((view ws).tree.cell n ≡ k)) → Member marks k
    of k (inl x) = x
    of k (inr x) = absurd (Memᴰ.not-nil x.1)

-- one
pub marks_one : (ws marks marks' : List ℕ) (n c : ℕ) → (view ws).tree.cell n ≡ c → PutsNumber marks marks' c → Marked ws marks marks' (n ∷ [])
marks_one ws marks marks' n c e put = record { map = put.is_set; marks_are = λ k. (to k (ℕ_discrete k c), of k (ℕ_discrete k c)) }
  where
    to : (k : ℕ) → Dec (k ≡ c) → Member marks' k → Member marks k ⊎ ((y : ℕ) × Memᴰ y (n ∷ []) × ((view ws).tree.cell y ≡ k))
    to k (yes d) x = inr (n, Memᴰ.head refl, e ∙ sym d)
    to k (no d) x = inl (sym (put.other k d) ∙ x)

    of : (k : ℕ) → Dec (k ≡ c) → Member marks k ⊎ ((y : ℕ) × Memᴰ y (n ∷ []) × ((view ws).tree.cell y ≡ k)) → Member marks' k
    of k (yes d) x = ap (has marks') d ∙ put.here
    of k (no d) (inl x) = put.other k d ∙ x
    of k (no d) (inr x) = absurd (d (sym x.2 ∙ ap (view ws).tree.cell (Memᴰ.eq_of_singleton x.1) ∙ e))

-- some, and then others
pub marks_on : (ws a b c xs ys : List ℕ) → Marked ws a b xs → Marked ws b c ys → Marked ws a c (xs ++ ys)
marks_on ws a b c xs ys f g = record { map = g.map; marks_are = λ k. ((λ x. to k ((g.marks_are k).0 x)), (λ x. (g.marks_are k).1 (of k x))) }
  where
    left : (k : ℕ) → Member a k ⊎ ((y : ℕ) × Memᴰ y xs × ((view ws).tree.cell y ≡ k)) → Member a k ⊎ ((y : ℕ) × Memᴰ y (xs ++ ys) × ((view ws).tree.cell y ≡ k))
    left k (inl x) = inl x
    left k (inr x) = inr (x.0, Memᴰ.append_left ys x.1, x.2)

    to : (k : ℕ) → Member b k ⊎ ((y : ℕ) × Memᴰ y ys × ((view ws).tree.cell y ≡ k)) → Member a k ⊎ ((y : ℕ) × Memᴰ y (xs ++ ys) × ((view ws).tree.cell y ≡ k))
    to k (inl x) = left k ((f.marks_are k).0 x)
    to k (inr x) = inr (x.0, Memᴰ.append_right xs x.1, x.2)

    of : (k : ℕ) → Member a k ⊎ ((y : ℕ) × Memᴰ y (xs ++ ys) × ((view ws).tree.cell y ≡ k)) → Member b k ⊎ ((y : ℕ) × Memᴰ y ys × ((view ws).tree.cell y ≡ k))
    of k (inl x) = inl ((f.marks_are k).1 (inl x))
    of k (inr x) = go (Memᴰ.append_cases xs x.1)
      where
        go : Memᴰ x.0 xs ⊎ Memᴰ x.0 ys → Member b k ⊎ ((y : ℕ) × Memᴰ y ys × ((view ws).tree.cell y ≡ k))
        go (inl i) = inl ((f.marks_are k).1 (inr (x.0, i, x.2)))
        go (inr i) = inr (x.0, i, x.2)

-- ---- the siblings

pub siblings_none : (ws : List ℕ) → siblings ws 0 ≡ []
unfolding siblings
siblings_none ws = ap beside (tip_at ws)

pub siblings_open : (ws : List ℕ) (words : (i : ℕ) → get_or ws i 0 < 2 ^ 64) (x : ℕ) (t : Threaded ws x) (some : ¬ (x ≡ 0))
    → siblings ws x ≡ n ws words x t some ∷ siblings ws (next_of (get_or ws (links_at + x) 0))
unfolding siblings
siblings_open ws words x t some = ap beside (opened ws words x t some)

at_end : (q : List ℕ) (place : ℕ) → length q ≤ place → drop place (blank_form q) ≡ []
at_end [] zero h = refl
at_end [] (suc place) h = refl
at_end (c ∷ q) zero h = absurd (omega arith)
at_end (c ∷ q) (suc place) h = at_end q place (omega arith)

-- where the machine is done, all siblings are found and nothing else
done_hits : (fq fr : Bool) (m : Shape) (s : State) → done s ≡ true → (t : Trie) → hits (next fq fr) (good fq fr) m (reading s) t ≡ beside t
done_hits fq fr m s d tip = refl
done_hits fq fr m s d (node n l r) =
    ap (λ (b : Bool). keep (good fq fr (on_done b (reading (step fq fr (blank_of (m.cell n)) s)))) n
    ++ (hits (next fq fr) (good fq fr) m (on_done b (reading (step fq fr (blank_of (m.cell n)) s))) l ++ hits (next fq fr) (good fq fr) m (reading s) r)) d
    ∙ ap₂ (λ (x y : List ℕ). n ∷ (x ++ y)) (listed_none fq fr m l) (done_hits fq fr m s d r)

module _ (fq fr : Bool) (ws q : List ℕ) (p : Point) (z : p.skip ≤ 0) (h : length q ≤ p.place) where
  is_done : done (at p.skip (drop p.place (blank_form q))) ≡ true
  is_done =
      let none : p.skip ≡ 0 = omega arith in
      ap (λ (k : ℕ). done (at k (drop p.place (blank_form q)))) none ∙ ap (λ (r : Row Blank). done (at 0 r)) (at_end q p.place h)

  pub all_answer : hits_at fq fr ws q p ≡ siblings ws p.link
  unfolding hits_at siblings
  all_answer = done_hits fq fr (view ws).tree _ is_done (trie (view ws).tree p.link)

  pub numbered : Ready fq fr ws q p → RulesBeside ws p.link
  numbered r = record { threaded = r.threaded; low = λ n i. r.low n (subst (Memᴰ n) (sym all_answer) i) }

-- ---- the loop over them

-- Those before x are marked, and x is the next.
pub record Marking (ws marks₀ : List ℕ) (link : ℕ) (marks : List ℕ) (x : ℕ) : Type 0 where
  pub threaded : Threaded ws x
  pub sofar : List ℕ
  pub marked : Marked ws marks₀ marks sofar
  pub total : sofar ++ siblings ws x ≡ siblings ws link
  pub low : (n : ℕ) → Memᴰ n (siblings ws link) → (view ws).tree.cell n < rule_numbers

pub begins : {ws marks : List ℕ} {link : ℕ} → RulesBeside ws link → NumberSet marks → Marking ws marks link marks link
begins a s = record { threaded = a.threaded; sofar = []; marked = marks_none s; total = refl; low = a.low }

pub marks_all : {ws marks₀ marks : List ℕ} {link x : ℕ} → Marking ws marks₀ link marks x → x ≡ 0 → Marked ws marks₀ marks (siblings ws link)
marks_all {ws} {marks₀} {marks} s z = subst (Marked ws marks₀ marks)
    (sym (append-nil s.sofar) ∙ ap (λ (l : List ℕ). s.sofar ++ l) (sym (siblings_none ws) ∙ ap (siblings ws) (sym z)) ∙ s.total) s.marked

module _ {ws : List ℕ} (words : (i : ℕ) → get_or ws i 0 < 2 ^ 64) {marks₀ marks : List ℕ} {link x : ℕ} (s : Marking ws marks₀ link marks x) (some : ¬ (x ≡ 0)) {c : ℕ} (ec : c ≡ cell_of (get_or ws (links_at + x) 0)) where
  abbrev this : ℕ
  this = n ws words x s.threaded some

  is_cell : (view ws).tree.cell this ≡ c
  is_cell = cell_is ws words x s.threaded some ∙ sym ec

  -- with this one
  more : (s.sofar ++ (this ∷ [])) ++ siblings ws (next_of (get_or ws (links_at + x) 0)) ≡ siblings ws link
  more = append_assoc s.sofar (this ∷ []) _ ∙ ap (λ (l : List ℕ). s.sofar ++ l) (sym (siblings_open ws words x s.threaded some)) ∙ s.total

  pub number_low : c < rule_numbers
  number_low = subst (λ (k : ℕ). k < rule_numbers) is_cell
      (s.low this (subst (Memᴰ this) more (Memᴰ.append_left _ (Memᴰ.append_right s.sofar (Memᴰ.head refl)))))

  pub marks_next : {marks' : List ℕ} {y : ℕ} → PutsNumber marks marks' c → y ≡ next_of (get_or ws (links_at + x) 0) → Marking ws marks₀ link marks' y
  marks_next {marks'} put e = subst (Marking ws marks₀ link marks') (sym e) (record {
    threaded = beside_threaded ws x s.threaded some;
    sofar = s.sofar ++ (this ∷ []);
    marked = marks_on ws marks₀ marks marks' s.sofar (this ∷ []) s.marked (marks_one ws marks marks' this c is_cell put);
    total = more;
    low = s.low;
  })

  pub fewer : {y : ℕ} → y ≡ next_of (get_or ws (links_at + x) 0) → size_at ws y < size_at ws x
  fewer e = let z = sizes ws words x s.threaded some in let a = ap (size_at ws) e in omega arith
