-- The marked numbers in order: what a walk from mark to mark writes, how many they are, and that they are the answers.
use Rattle.std.specs.Prelude.{◌≡◌, ◌⊎◌, ◌↔◌, Bool}
use Rattle.std.proofs.Math.Path.{refl, ap}
use Rattle.std.proofs.Common.{sym, ◌∙◌, subst, inl, inr}
use mathlib.Core.List.{List, ◌++◌, append-nil, Memᴰ}
use Rattle.std.proofs.Math.Bool.{true, false}
use Prim.Native.Nat.{ℕ, zero, suc, ◌+◌, ◌-◌, ◌≤◌, ◌<◌}
use native.Mathlib.Omega.{arith}
use Rattle.std.proofs.Math.ListN.{length, length-append}
use Rattle.deciding.specs.Deciding.{true_not_false}
use Rattle.layout.specs.Layout.{rule_numbers}
use Rattle.bits.specs.Numbers.{has, Member}
use Rattle.term.specs.Cells.{blank_form}
use Rattle.term.specs.Questions.{Mode}
use Rattle.term.specs.Machine.{accepts, question_fills, rule_fills}
use Rattle.shape.specs.Tally.{bit, tally}
use Rattle.book.specs.Rules.{Rule, Held, nothing, rule, each}
use Rattle.book.specs.Gathered.{each_split, each_none, rule_inj, not_rule}
use Rattle.book.specs.Memory.{Passing, rules_in}
use Rattle.book.specs.Promises.{IsTerm}
use Rattle.book.specs.Facts.{limited}
use Rattle.questions.specs.Asking.{keep_if, numbers, numbers_in_order, answering, answers, Listed}
use Rattle.questions.specs.Order.{as_many, same_marks}
use Rattle.questions.specs.Demand2.{lists}
use Rattle.questions.specs.Promises.{Answering, Searched, Asked}

module _ (u : ℕ → Bool) where
  -- from one mark to the next
  pub numbers_split : (a b : ℕ) → a ≤ b → numbers u b ≡ numbers u a ++ each (λ k. keep_if (u k) k) (b - a) a
  numbers_split a b h =
      let e : b ≡ a + (b - a) = omega arith in
      ap (numbers u) e ∙ each_split (λ k. keep_if (u k) k) a (b - a) 0
      ∙ ap (λ (j : ℕ). numbers u a ++ each (λ k. keep_if (u k) k) (b - a) j) (native.Mathlib.Nat.zero-add a)

  pub numbers_skip : (a b : ℕ) → a ≤ b → ((k : ℕ) → a ≤ k → k < b → u k ≡ false) → numbers u b ≡ numbers u a
  numbers_skip a b h none =
      numbers_split a b h
      ∙ ap (λ (z : List ℕ). numbers u a ++ z) (each_none (λ k. keep_if (u k) k) (b - a) a (λ k x y. ap (λ (c : Bool). keep_if c k) (none k x (omega arith))))
      ∙ append-nil (numbers u a)

  pub numbers_one : (a : ℕ) → numbers u (suc a) ≡ numbers u a ++ keep_if (u a) a
  unfolding each
  numbers_one a =
      let e : suc a ≡ a + 1 = omega arith in
      ap (numbers u) e ∙ each_split (λ k. keep_if (u k) k) a 1 0
      ∙ ap (λ (z : List ℕ). numbers u a ++ z) (append-nil _ ∙ ap (λ (j : ℕ). keep_if (u j) j) (native.Mathlib.Nat.zero-add a))

  pub numbers_more : (a b : ℕ) → a ≤ b → length (numbers u a) ≤ length (numbers u b)
  numbers_more a b h = omega (arith, ap length (numbers_split a b h) ∙ length-append (numbers u a) _)

  pub numbers_tally : (n : ℕ) → length (numbers u n) ≡ tally u n
  unfolding tally each
  numbers_tally zero = refl
  numbers_tally (suc n) = ap length (numbers_one n) ∙ length-append (numbers u n) _ ∙ omega (arith, one (u n), numbers_tally n)
    where
      one : (b : Bool) → length (keep_if b n) ≡ bit b
      one true = refl
      one false = refl

-- a search that begins with no mark leaves those of the rules that answer
pub asked : (fq fr : Bool) (ws q none marks : List ℕ) → ((k : ℕ) → has none k ≡ false) → Searched fq fr ws q none marks → Asked fq fr ws q marks
asked fq fr ws q none marks e s k = ((λ m. of ((s.marks_are k).0 m)), (λ a. (s.marks_are k).1 (inr a)))
  where
    of : Member none k ⊎ Answering fq fr ws q k → Answering fq fr ws q k
    of (inl m) = absurd (true_not_false m (e k))
    of (inr a) = a

is : (b c : Bool) → (b ≡ true → c ≡ true) → (c ≡ true → b ≡ true) → b ≡ c
is true true f g = refl
is true false f g = absurd (true_not_false (f refl) refl)
is false true f g = absurd (true_not_false (g refl) refl)
is false false f g = refl

-- and where the marks are those of the rules that answer, in order they are the answers
pub marked_answers : (mode : Mode) (ws q marks : List ℕ) → Asked (question_fills mode) (rule_fills mode) ws q marks
    → numbers_in_order (rules_in ws) (has marks) ≡ answers mode q (rules_in ws)
unfolding answers
marked_answers mode ws q marks a = same_marks (rules_in ws) (has marks) (λ k. answering mode q (rules_in ws k)) (λ k. same k (rules_in ws k) refl)
  where
    off : (b : Bool) → ¬ (b ≡ true) → b ≡ false
    off true n = absurd (n refl)
    off false n = refl

    same : (k : ℕ) (h : Held) → rules_in ws k ≡ h → has marks k ≡ answering mode q h
    same k nothing e = off (has marks k) (λ m. not_rule (sym e ∙ ((a k).0 m).held))
    same k (rule r) e = is (has marks k) (accepts mode (blank_form q) (blank_form r.term))
        (λ m. let x = (a k).0 m in subst (λ (s : Rule). accepts mode (blank_form q) (blank_form s.term) ≡ true) (rule_inj (sym x.held ∙ e)) x.accepted)
        (λ m. (a k).1 (record { its = r; held = e; accepted = m }))

-- as many as are marked
pub marked_many : (mode : Mode) (ws q marks : List ℕ) → Asked (question_fills mode) (rule_fills mode) ws q marks
    → length (numbers (has marks) rule_numbers) ≡ length (answers mode q (rules_in ws))
marked_many mode ws q marks a = sym (as_many (rules_in ws) (has marks)) ∙ ap length (marked_answers mode ws q marks a)

-- Demand 2 for a book: what is listed is each rule that is in the relation with the question, and no other.
pub exactly : (mode : Mode) (ws q marks : List ℕ) → Passing ws → IsTerm q → Asked (question_fills mode) (rule_fills mode) ws q marks
    → (k : ℕ) → Memᴰ k (numbers_in_order (rules_in ws) (has marks)) ↔ Listed mode q (rules_in ws) k
exactly mode ws q marks p w a k =
    let same = marked_answers mode ws q marks a in
    let l = lists mode q (rules_in ws) w (limited ws p).whole k in
    ((λ i. l.0 (subst (Memᴰ k) same i)), (λ x. subst (Memᴰ k) (sym same) (l.1 x)))

-- One outcome: each number is fixed, and books with the same rules give the same list.
pub asked_once : (fq fr : Bool) (ws q a b : List ℕ) → Asked fq fr ws q a → Asked fq fr ws q b → (k : ℕ) → has a k ≡ has b k
asked_once fq fr ws q a b x y k = is (has a k) (has b k) (λ m. (y k).1 ((x k).0 m)) (λ m. (x k).1 ((y k).0 m))

pub asked_alike : (mode : Mode) (ws vs q a b : List ℕ) → rules_in ws ≡ rules_in vs
    → Asked (question_fills mode) (rule_fills mode) ws q a → Asked (question_fills mode) (rule_fills mode) vs q b
    → numbers_in_order (rules_in ws) (has a) ≡ numbers_in_order (rules_in vs) (has b)
asked_alike mode ws vs q a b e x y = marked_answers mode ws q a x ∙ ap (answers mode q) e ∙ sym (marked_answers mode vs q b y)
