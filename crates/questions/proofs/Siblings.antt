-- A symbol that is not the one wanted is met by no cell of the question that can't be filled: the machine fails there.
use mathlib.Core.Path.{◌≡◌, refl, sym, ap, ap₂, ◌∙◌, subst}
use mathlib.Core.Logic.{inl, inr}
use mathlib.Core.List.{List, [], ◌∷◌}
use mathlib.Core.Bool.{Bool, true, false}
use Prim.Native.Nat.{ℕ, zero, suc, ◌+◌, ◌/◌, ◌^◌, ◌≤◌, ◌<◌}
use native.Mathlib.Omega.{arith}
use native.Mathlib.Decide.{ℕ_discrete, dec_lt}
use borrow.Author.Tests.{lt-ltb, le-ltb, ne_eqb}
use lib.ListN.{length, get_or, drop}
use Rattle.std.proofs.Common.{Option, Some, None}
use Rattle.deciding.specs.Deciding.{pick}
use Rattle.layout.specs.Layout.{links_at}
use Rattle.term.specs.Cells.{Cell, vari, symb, star, Row, Blank, arity, blank_of, blank_form}
use Rattle.term.specs.Machine.{failed, at, past, meet, only_if, step}
use Rattle.term.specs.Steps.{spot}
use Rattle.links.specs.Words.{cell_of, next_of}
use Rattle.shape.specs.Trie.{trie}
use Rattle.shape.specs.Search.{size}
use Rattle.book.specs.Memory.{view}
use Rattle.questions.specs.Walk.{reading, next}
use Rattle.questions.specs.Promises.{walk_before, PassesBy, start, pass_on, Sought, reached, ended, beyond, Skips, stay, skip_on, Decisive, LastWanted, Threaded}
use Rattle.questions.proofs.Threads.{beside_threaded, beside_smaller, beside_above}

-- a symbol and a variable as blank forms have them
symbol : (c : ℕ) → c < 32768 → blank_of c ≡ symb c
symbol c h = ap (λ (b : Bool). pick b (symb c) star) (lt-ltb c 32768 h)

variable : (c : ℕ) → 32768 ≤ c → blank_of c ≡ star
variable c h = ap (λ (b : Bool). pick b (symb c) star) (le-ltb c 32768 h)

-- the cell at a place of the question, and those behind it
cells_from : (q : List ℕ) (place : ℕ) → place < length q → drop place (blank_form q) ≡ blank_of (get_or q place 0) ∷ drop (suc place) (blank_form q)
cells_from [] place h = absurd (omega arith)
cells_from (c ∷ q) zero h = refl
cells_from (c ∷ q) (suc place) h = cells_from q place (omega arith)

module _ (fq fr : Bool) (q : List ℕ) (place d : ℕ) (h : place < length q) where
  -- the cells of a rule and of the question meet
  met : next fq fr d (walk_before q 0 place) ≡ reading (meet fq fr (blank_of d) (blank_of (get_or q place 0)) (drop (suc place) (blank_form q)))
  met = ap (λ (r : Row Blank). next fq fr d (reading (at 0 r))) (cells_from q place h)

  pub met_step : next fq fr d (walk_before q 0 place) ≡ reading (step fq fr (blank_of d) (spot q 0 place))
  met_step = ap (λ (r : Row Blank). next fq fr d (reading (at 0 r))) (cells_from q place h)
      ∙ sym (ap (λ (r : Row Blank). reading (step fq fr (blank_of d) (at 0 r))) (cells_from q place h))

  -- whatever the rule's cell is, where the question's may be filled
  pub any_met : fq ≡ true → 32768 ≤ get_or q place 0 → next fq fr d (walk_before q 0 place) ≡ reading (at (arity (blank_of d)) (drop (suc place) (blank_form q)))
  any_met f l = met ∙ ap (λ (e : Cell Blank). reading (meet fq fr (blank_of d) e (drop (suc place) (blank_form q)))) (variable (get_or q place 0) l) ∙ go (blank_of d)
    where
      go : (c : Cell Blank) → reading (meet fq fr c star (drop (suc place) (blank_form q))) ≡ reading (at (arity c) (drop (suc place) (blank_form q)))
      go (vari x) = refl
      go (symb c) = ap (λ (b : Bool). reading (only_if b (at (c / 4096) (drop (suc place) (blank_form q))))) f

  pub other_symbol : d < 32768 → get_or q place 0 < 32768 → ¬ (d ≡ get_or q place 0) → next fq fr d (walk_before q 0 place) ≡ reading failed
  other_symbol s l n =
      met ∙ ap₂ (λ (c e : Cell Blank). reading (meet fq fr c e (drop (suc place) (blank_form q)))) (symbol d s) (symbol (get_or q place 0) l)
      ∙ ap (λ (b : Bool). reading (only_if b (at 0 (drop (suc place) (blank_form q))))) (ne_eqb (get_or q place 0) d (λ e. n (sym e)))

  pub no_symbol : d < 32768 → 32768 ≤ get_or q place 0 → fq ≡ false → next fq fr d (walk_before q 0 place) ≡ reading failed
  no_symbol s l f =
      met ∙ ap₂ (λ (c e : Cell Blank). reading (meet fq fr c e (drop (suc place) (blank_form q)))) (symbol d s) (variable (get_or q place 0) l)
      ∙ ap (λ (b : Bool). reading (only_if b (at (d / 4096) (drop (suc place) (blank_form q))))) f

  no_blank : 32768 ≤ d → get_or q place 0 < 32768 → fr ≡ false → next fq fr d (walk_before q 0 place) ≡ reading failed
  no_blank s l f =
      met ∙ ap₂ (λ (c e : Cell Blank). reading (meet fq fr c e (drop (suc place) (blank_form q)))) (variable d s) (symbol (get_or q place 0) l)
      ∙ ap (λ (b : Bool). reading (only_if b (at 0 (past (get_or q place 0 / 4096) (drop (suc place) (blank_form q)))))) f

pub one_symbol : (fq : Bool) (q : List ℕ) (place : ℕ) → place < length q → get_or q place 0 < 32768 → Decisive fq q place (get_or q place 0)
one_symbol fq q place h l = record { symbols = λ fr d s n. other_symbol fq fr q place d h s l n; any = λ _ d n. go d n (dec_lt d 32768) }
  where
    go : (d : ℕ) → ¬ (d ≡ get_or q place 0) → Dec (d < 32768) → next fq false d (walk_before q 0 place) ≡ reading failed
    go d n (yes s) = other_symbol fq false q place d h s l n
    go d n (no s) = no_blank fq false q place d h (omega arith) l refl

pub no_symbols : (fq : Bool) (q : List ℕ) (place : ℕ) → place < length q → 32768 ≤ get_or q place 0 → fq ≡ false → Decisive fq q place 32768
no_symbols fq q place h l f = record { symbols = λ fr d s n. no_symbol fq fr q place d h s l f; any = λ x. absurd (omega arith) }

-- what is passed by is skipped
skipping : (fq fr : Bool) (ws q : List ℕ) (place cell link x : ℕ) → Decisive fq q place cell → PassesBy ws cell link x → Skips fq fr ws q place link x
skipping fq fr ws q place cell link x d start = stay
skipping fq fr ws q place cell link x d (pass_on by some low other) = skip_on (skipping fq fr ws q place cell link _ d by) some (d.symbols fr _ low other)

-- a link that was passed by is of the tree
threaded : (ws : List ℕ) (cell link x : ℕ) → Threaded ws link → PassesBy ws cell link x → Threaded ws x
threaded ws cell link x t start = t
threaded ws cell link x t (pass_on {x = y} by some low other) = beside_threaded ws y (threaded ws cell link y t by) some

-- Behind the symbol wanted all siblings are above it, and the machine fails at each of them.
module _ (fq : Bool) (ws q : List ℕ) (place link cell : ℕ) (small : cell < 32768) (d : Decisive fq q place cell) (words : (i : ℕ) → get_or ws i 0 < 2 ^ 64) where
  to_the_end : (fuel x : ℕ) → size (trie (view ws).tree x) ≤ fuel → Threaded ws x → (¬ (x ≡ 0) → cell < cell_of (get_or ws (links_at + x) 0))
      → Skips fq false ws q place link x → Skips fq false ws q place link 0
  to_the_end zero x s t above k = go (ℕ_discrete x 0)
    where
      go : Dec (x ≡ 0) → Skips fq false ws q place link 0
      go (yes z) = subst (Skips fq false ws q place link) z k
      go (no nz) = absurd (let l = beside_smaller ws x t nz words in omega arith)
  to_the_end (suc fuel) x s t above k = go (λ y. to_the_end fuel y) (ℕ_discrete x 0)
    where
      go : ((y : ℕ) → size (trie (view ws).tree y) ≤ fuel → Threaded ws y → (¬ (y ≡ 0) → cell < cell_of (get_or ws (links_at + y) 0)) → Skips fq false ws q place link y → Skips fq false ws q place link 0) → Dec (x ≡ 0) → Skips fq false ws q place link 0
      go ih (yes z) = subst (Skips fq false ws q place link) z k
      go ih (no nz) =
          let a = above nz in
          ih (next_of (get_or ws (links_at + x) 0)) (let l = beside_smaller ws x t nz words in omega arith) (beside_threaded ws x t nz)
          (λ ny. let b = beside_above ws x t nz ny in omega arith)
          (skip_on k nz (d.any small (cell_of (get_or ws (links_at + x) 0)) (λ e. absurd (omega arith))))

-- the link that was found, 0 for none
abbrev pub found_link : Option ℕ → ℕ
found_link (Some x) = x
found_link None = 0

pub seeking : {fq fr : Bool} {ws q : List ℕ} {place link cell last : ℕ} {r : Option ℕ} → ((i : ℕ) → get_or ws i 0 < 2 ^ 64) → Threaded ws link
    → Decisive fq q place cell → LastWanted fr cell last → Sought ws cell last link r → Skips fq fr ws q place link (found_link r)
seeking {fq} {fr} {ws} {q} {place} {link} {cell} words t d w (reached {r = x} by some) = skipping fq fr ws q place cell link x d by
seeking {fq} {fr} {ws} {q} {place} {link} {cell} words t d w (ended {x} by z) = subst (Skips fq fr ws q place link) z (skipping fq fr ws q place cell link x d by)
seeking words t d (inr e) (beyond {x} by some above low) = absurd (omega arith)
seeking {fq} {fr} {ws} {q} {place} {link} {cell} words t d (inl e) (beyond {x} by some above low) = subst (λ (b : Bool). Skips fq b ws q place link 0) (sym e.0)
    (to_the_end fq ws q place link cell (let f = e.1 in omega arith) d words (size (trie (view ws).tree x)) x (omega arith)
    (threaded ws cell link x t by) (λ _. (let f = e.1 in omega arith)) (skipping fq false ws q place cell link x d by))
