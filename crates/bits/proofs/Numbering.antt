-- A number is in the set by two bits, its own and the head's; a store to a word clears its bits, and a mark sets one.
use mathlib.Core.Path.{◌≡◌, refl, sym, ap, ap₂, ◌∙◌, subst}
use mathlib.Core.List.{List, [], ◌∷◌}
use mathlib.Core.Bool.{Bool, true, false, cond, ◌&&◌, and-false}
use Prim.Native.Nat.{ℕ, zero, suc, ◌+◌, ◌-◌, ◌*◌, ◌/◌, ◌%◌, ◌^◌, ◌≤◌, ◌<◌}
use native.Mathlib.Nat.{mul-mod_left, zero-add, add-zero, suc-add}
use native.Mathlib.Omega.{arith}
use native.Mathlib.Decide.{dec_lt, ℕ_discrete}
use borrow.Author.Tests.{eq-eqb, ne_eqb}
use lib.Count.{count_leading_zeros}
use lib.Dec.{eqb}
use lib.ListN.{length, get_or, set, length-set}
use lib.Seq.{get_or-set_same, get_or-set_other}
use Rattle.std.specs.Option.{option_map}
use Rattle.std.specs.Prelude.{Option, Some, None}
use Rattle.bits.specs.declared.numbers.NumberAndRest.{NumberAndRest}
use Rattle.bits.specs.Packed.{parts, bits, First, FirstOf}
use Rattle.bits.specs.Laws.{length_parts, length_bits, get_bit, at_word}
use Rattle.bits.specs.Numbers.{counts, has, Member, NumberSet, Emptied, PutsNumber, NextNumber, NextOf, rest_of, NextAndRest, NextAndRestOf, members, members_on, IsNext, none_above}
use Rattle.bits.proofs.Searching.{none_left, left_low, one_left, shift_twice, zero_bit}

apart : (b : Bool) → b ≡ true → b ≡ false → ⊥
apart true e f = mathlib.Core.Bool.true≢false f
apart false e f = mathlib.Core.Bool.false≢true e

-- ---- one word cleared

module _ (ws : List ℕ) (q : ℕ) (h : q < length ws) where
  cleared : (k : ℕ) → k / 64 ≡ q → get_or (bits (set ws q 0)) k 0 ≡ 0
  cleared k e = zero_bit (set ws q 0) k (ap (λ (i : ℕ). get_or (set ws q 0) i 0) e ∙ get_or-set_same ws q 0 0 h)

  uncleared : (k : ℕ) → ¬ (k / 64 ≡ q) → get_or (bits (set ws q 0)) k 0 ≡ get_or (bits ws) k 0
  uncleared k d = get_bit (set ws q 0) k ∙ ap (λ (w : ℕ). w / 2 ^ (63 - k % 64) % 2) (get_or-set_other ws q (k / 64) 0 0 d) ∙ sym (get_bit ws k)

-- with no word that counts there is no number
pub emptied : (ws : List ℕ) → length ws ≡ 65 → Emptied (set ws 64 0)
emptied ws e = record { is_set = record { size = long; some = λ q h c. absurd (apart (counts (set ws 64 0) q) c (off q h)) }; none = λ k. go k (dec_lt k 4096) }
  where
    long : length (set ws 64 0) ≡ 65
    long = length-set ws 64 0 ∙ e

    off : (q : ℕ) → q < 64 → counts (set ws 64 0) q ≡ false
    off q h = ap (λ (x : ℕ). eqb x 1) (cleared ws 64 (omega arith) (4096 + q) (omega arith))

    go : (k : ℕ) → Dec (k < 4096) → has (set ws 64 0) k ≡ false
    go k (yes h) = ap (λ (b : Bool). b && eqb (get_or (bits (set ws 64 0)) k 0) 1) (off (k / 64) (omega arith))
    go k (no h) = none_above (set ws 64 0) long k (omega arith)

-- ---- a number put in

module _ (ws ws' : List ℕ) (n : ℕ) (h : n < length (bits ws)) (e : bits ws' ≡ set (bits ws) n 1) where
  marked_here : get_or (bits ws') n 0 ≡ 1
  marked_here = ap (λ (l : List ℕ). get_or l n 0) e ∙ get_or-set_same (bits ws) n 1 0 h

  marked_other : (k : ℕ) → ¬ (k ≡ n) → get_or (bits ws') k 0 ≡ get_or (bits ws) k 0
  marked_other k d = ap (λ (l : List ℕ). get_or l k 0) e ∙ get_or-set_other (bits ws) n k 1 0 d

module _ (ws ws' : List ℕ) (n : ℕ) (l : n < 4096) (s : NumberSet ws) (same : length ws' ≡ length ws) where
  long : length ws' ≡ 65
  long = same ∙ s.size

  -- from what became of its own bit, of its word's bit in the head, of the other bits of its word, and of all other words
  puts : get_or (bits ws') n 0 ≡ 1 → counts ws' (n / 64) ≡ true → ((k : ℕ) → k / 64 ≡ n / 64 → ¬ (k ≡ n) → eqb (get_or (bits ws') k 0) 1 ≡ has ws k)
      → ((k : ℕ) → k < 4160 → ¬ (k / 64 ≡ n / 64) → ¬ (k ≡ 4096 + n / 64) → get_or (bits ws') k 0 ≡ get_or (bits ws) k 0) → PutsNumber ws ws' n
  puts own head word else = record
      { is_set = record { size = long; some = λ q h c. some q h c (ℕ_discrete q (n / 64)) }; here = here; other = λ k d. other k d (dec_lt k 4096) }
    where
      here : has ws' n ≡ true
      here = ap₂ (λ (b : Bool) (x : ℕ). b && eqb x 1) head own

      away : (k : ℕ) → k < 4096 → ¬ (k / 64 ≡ n / 64) → has ws' k ≡ has ws k
      away k h d = ap₂ (λ (x y : ℕ). eqb x 1 && eqb y 1) (else (4096 + k / 64) (omega arith) (omega arith) (λ e. d (omega arith))) (else k (omega arith) d (omega arith))

      other : (k : ℕ) → ¬ (k ≡ n) → Dec (k < 4096) → has ws' k ≡ has ws k
      other k d (yes h) = go (ℕ_discrete (k / 64) (n / 64))
        where
          go : Dec (k / 64 ≡ n / 64) → has ws' k ≡ has ws k
          go (yes e) = ap (λ (b : Bool). b && eqb (get_or (bits ws') k 0) 1) (ap (counts ws') e ∙ head) ∙ word k e d
          go (no f) = away k h f
      other k d (no h) = none_above ws' long k (omega arith) ∙ sym (none_above ws s.size k (omega arith))

      some : (q : ℕ) → q < 64 → counts ws' q ≡ true → Dec (q ≡ n / 64) → ¬ ((m : ℕ) → m / 64 ≡ q → has ws' m ≡ false)
      some q h c (yes e) none = apart (has ws' n) here (none n (sym e))
      some q h c (no d) none =
          s.some q h (ap (λ (y : ℕ). eqb y 1) (sym (else (4096 + q) (omega arith) (omega arith) (λ e. d (omega arith)))) ∙ c)
          (λ m f. sym (away m (omega arith) (λ e. d (sym f ∙ e))) ∙ none m f)

  -- its word counts
  pub put_more : counts ws (n / 64) ≡ true → bits ws' ≡ set (bits ws) n 1 → PutsNumber ws ws' n
  put_more c e = puts (marked_here ws ws' n inside e) (ap (λ (x : ℕ). eqb x 1) (marked_other ws ws' n inside e (4096 + n / 64) (omega arith)) ∙ c)
      (λ k f d. ap (λ (x : ℕ). eqb x 1) (marked_other ws ws' n inside e k d) ∙ sym (ap (λ (b : Bool). b && eqb (get_or (bits ws) k 0) 1) (ap (counts ws) f ∙ c)))
      (λ k h d f. marked_other ws ws' n inside e k (λ z. d (ap (λ (x : ℕ). x / 64) z)))
    where
      inside : n < length (bits ws)
      inside = omega (arith, length_bits ws, s.size)

  -- it does not: the word is cleared, and marked in the head
  pub put_first : counts ws (n / 64) ≡ false → (vs : List ℕ) → bits vs ≡ set (bits (set ws (n / 64) 0)) (4096 + n / 64) 1
      → bits ws' ≡ set (bits vs) n 1 → length vs ≡ 65 → PutsNumber ws ws' n
  put_first c vs f e lv = puts (marked_here vs ws' n inside e)
      (ap (λ (x : ℕ). eqb x 1) (marked_other vs ws' n inside e (4096 + n / 64) (omega arith) ∙ marked_here (set ws (n / 64) 0) vs (4096 + n / 64) head_in f))
      (λ k g d. ap (λ (x : ℕ). eqb x 1) (back k (omega arith) d ∙ cleared ws (n / 64) word_in k g)
      ∙ sym (ap (λ (b : Bool). b && eqb (get_or (bits ws) k 0) 1) (ap (counts ws) g ∙ c)))
      (λ k h d g. back k g (λ z. d (ap (λ (x : ℕ). x / 64) z)) ∙ uncleared ws (n / 64) word_in k d)
    where
      word_in : n / 64 < length ws
      word_in = omega (arith, s.size)

      inside : n < length (bits vs)
      inside = omega (arith, length_bits vs, lv)

      head_in : 4096 + n / 64 < length (bits (set ws (n / 64) 0))
      head_in = omega (arith, length_bits (set ws (n / 64) 0), length-set ws (n / 64) 0, s.size)

      back : (k : ℕ) → ¬ (k ≡ 4096 + n / 64) → ¬ (k ≡ n) → get_or (bits ws') k 0 ≡ get_or (bits (set ws (n / 64) 0)) k 0
      back k a b = marked_other vs ws' n inside e k b ∙ marked_other (set ws (n / 64) 0) vs (4096 + n / 64) head_in f k a

-- ---- the next number

module _ (ws : List ℕ) (q from : ℕ) (h : q < 64) (l : from < 64) where
  -- a word that counts
  module _ (c : counts ws q ≡ true) where
    at_bit : (r : ℕ) → First 1 (parts 1 64 (get_or ws q 0)) from r → NextNumber ws (q * 64 + from) (q * 64 + 64) (q * 64 + r)
    at_bit r f = record {
      after = omega (arith, f.after);
      within = omega (arith, f.within, length_parts 1 64 (get_or ws q 0));
      before = λ k a b. ap (λ (x : Bool). counts ws (k / 64) && x) (ne_eqb (get_or (bits ws) k 0) 1 (clear k a b)) ∙ and-false (counts ws (k / 64));
      here = λ b. ap₂ (λ (x y : Bool). x && y) (ap (counts ws) (let e : (q * 64 + r) / 64 ≡ q = omega arith in e) ∙ c)
          (eq-eqb (get_or (bits ws) (q * 64 + r) 0) 1 (at_word 1 64 ws q r (omega arith) ∙ f.here (omega (arith, length_parts 1 64 (get_or ws q 0)))));
    }
      where
        clear : (k : ℕ) → q * 64 + from ≤ k → k < q * 64 + r → get_or (bits ws) k 0 ≡ 1 → ⊥
        clear k a b z =
            let i : ℕ = k - q * 64 in
            let is : q * 64 + i ≡ k = omega arith in
            f.before i (omega arith) (omega arith)
            (sym (at_word 1 64 ws q i (omega (arith, f.within, length_parts 1 64 (get_or ws q 0)))) ∙ ap (λ (x : ℕ). get_or (bits ws) x 0) is ∙ z)

    pub of_word : (o : Option ℕ) → FirstOf 1 (parts 1 64 (get_or ws q 0)) from o → NextOf ws (q * 64 + from) (q * 64 + 64) (option_map (λ (r : ℕ). q * 64 + r) o)
    of_word None f = at_bit 64 (subst (λ (x : ℕ). First 1 (parts 1 64 (get_or ws q 0)) from x) (length_parts 1 64 (get_or ws q 0)) f)
    of_word (Some r) f = (omega (arith, f.0, length_parts 1 64 (get_or ws q 0)), at_bit r f.1)

-- the first word has no number from `from` on
module _ (ws : List ℕ) (s : NumberSet ws) (from q : ℕ) (at : from / 64 ≡ q) (low : from < 4096) (n : NextNumber ws (q * 64 + from % 64) (q * 64 + 64) (q * 64 + 64)) where
  -- words that the head passes have no number
  head_is : (j : ℕ) → j < 64 → get_or (bits ws) (4096 + j) 0 ≡ get_or (parts 1 64 (get_or ws 64 0)) j 0
  head_is j b = at_word 1 64 ws 64 j b

  passed : (i : ℕ) → First 1 (parts 1 64 (get_or ws 64 0)) (q + 1) i → (k : ℕ) → from ≤ k → k < i * 64 → has ws k ≡ false
  passed i f k a b = go (dec_lt k (q * 64 + 64))
    where
      small : i ≤ 64
      small = omega (arith, f.within, length_parts 1 64 (get_or ws 64 0))

      go : Dec (k < q * 64 + 64) → has ws k ≡ false
      go (yes c) = n.before k (omega arith) (omega arith)
      go (no c) =
          ap (λ (x : Bool). x && eqb (get_or (bits ws) k 0) 1)
          (ne_eqb (get_or (bits ws) (4096 + k / 64) 0) 1 (λ z. f.before (k / 64) (omega arith) (omega arith) (sym (head_is (k / 64) (omega (arith, small))) ∙ z)))

  pub in_none : FirstOf 1 (parts 1 64 (get_or ws 64 0)) (q + 1) None → NextNumber ws from 4096 4096
  in_none f = record {
    after = omega arith;
    within = omega arith;
    before = λ k a b. passed (length (parts 1 64 (get_or ws 64 0))) f k a (omega (arith, length_parts 1 64 (get_or ws 64 0)));
    here = λ b. absurd (omega arith);
  }

  -- the word to which it leads has one
  pub in_next : (i : ℕ) → FirstOf 1 (parts 1 64 (get_or ws 64 0)) (q + 1) (Some i) → (o : Option ℕ) → NextOf ws (i * 64 + 0) (i * 64 + 64) o → NextOf ws from 4096 o
  in_next i f o m = go o m
    where
      small : i < 64
      small = omega (arith, f.0, length_parts 1 64 (get_or ws 64 0))

      some : ¬ ((k : ℕ) → k / 64 ≡ i → has ws k ≡ false)
      some = s.some i small (eq-eqb (get_or (bits ws) (4096 + i) 0) 1 (head_is i small ∙ f.1.here f.0))

      go : (o : Option ℕ) → NextOf ws (i * 64 + 0) (i * 64 + 64) o → NextOf ws from 4096 o
      go None m = absurd (some (λ k e. m.before k (omega arith) (omega arith)))
      go (Some t) m = (
        omega (arith, m.0, small),
        record {
          after = omega (arith, f.1.after, m.1.after);
          within = omega (arith, m.0, small);
          before = λ k a b. early k a b (dec_lt k (i * 64));
          here = λ b. m.1.here m.0;
        },
      )
        where
          early : (k : ℕ) → from ≤ k → k < t → Dec (k < i * 64) → has ws k ≡ false
          early k a b (yes d) = passed i f.1 k a d
          early k a b (no d) = m.1.before k (omega arith) b

-- ---- the rest of a word behind a number

left_true : (a b : Bool) → a && b ≡ true → a ≡ true
left_true true b e = refl
left_true false b e = e

module _ (ws : List ℕ) (s : NumberSet ws) (n rest : ℕ) (h : n < 4096) (m : Member ws n) (e : rest ≡ rest_of ws n) where
  on : counts ws (n / 64) ≡ true
  on = left_true (counts ws (n / 64)) (eqb (get_or (bits ws) n 0) 1) m

  behind : (rest * 2 ^ 1) % 2 ^ 64 ≡ (get_or ws (n / 64) 0 * 2 ^ (n % 64 + 1)) % 2 ^ 64
  behind = ap (λ (x : ℕ). (x * 2 ^ 1) % 2 ^ 64) e ∙ shift_twice (get_or ws (n / 64) 0) (n % 64) 1

  -- nothing is left in the word
  word_done : (rest * 2 ^ 1) % 2 ^ 64 ≡ 0 → (k : ℕ) → n + 1 ≤ k → k < n / 64 * 64 + 64 → has ws k ≡ false
  word_done z k a b =
      (at_bit ws (n / 64) (n % 64 + 1) (omega arith) (omega arith) on 64
      (none_left (get_or ws (n / 64) 0) (n % 64 + 1) (omega arith) (sym behind ∙ z))).before k (omega arith) b

  behind_word : (rest * 2 ^ 1) % 2 ^ 64 ≡ 0 → (at : ℕ) → NextNumber ws (n / 64 * 64 + 64) 4096 at → NextNumber ws (n + 1) 4096 at
  behind_word z at f = record { after = let q = f.after in omega arith; within = f.within; before = λ k a b. early k a b (dec_lt k (n / 64 * 64 + 64)); here = f.here }
    where
      early : (k : ℕ) → n + 1 ≤ k → k < at → Dec (k < n / 64 * 64 + 64) → has ws k ≡ false
      early k a b (yes l) = word_done z k a l
      early k a b (no l) = f.before k (omega arith) b

  pub word_goes : (rest * 2 ^ 1) % 2 ^ 64 ≡ 0 → (o : Option NumberAndRest) → NextAndRestOf ws (n / 64 * 64 + 64) o → NextAndRestOf ws (n + 1) o
  word_goes z None f = behind_word z 4096 f
  word_goes z (Some r) f = (f.0, record { first = behind_word z r.at f.1.first; left = f.1.left })

  -- there is one more
  module _ (nz : ¬ ((rest * 2 ^ 1) % 2 ^ 64 ≡ 0)) where
    inner : n % 64 + 1 < 64
    inner = go (dec_lt (n % 64 + 1) 64)
      where
        go : Dec (n % 64 + 1 < 64) → n % 64 + 1 < 64
        go (yes l) = l
        go (no l) =
            let q : n % 64 + 1 ≡ 64 = omega arith in
            absurd (nz (behind ∙ ap (λ (x : ℕ). (get_or ws (n / 64) 0 * 2 ^ x) % 2 ^ 64) q ∙ mul-mod_left (get_or ws (n / 64) 0) (2 ^ 64)))

    more : ¬ ((get_or ws (n / 64) 0 * 2 ^ (n % 64 + 1)) % 2 ^ 64 ≡ 0)
    more z = nz (behind ∙ z)

    pub word_more : (z : ℕ) → z ≡ count_leading_zeros 64 ((rest * 2 ^ 1) % 2 ^ 64)
        → (n + 1 + z < 4096) × NextAndRest ws (n + 1) (n + 1 + z) (((rest * 2 ^ 1) % 2 ^ 64 * 2 ^ z) % 2 ^ 64)
    word_more z ez = (
      let q = there in let l = low in omega arith,
      record {
        first = subst (λ (x : ℕ). NextNumber ws (n + 1) 4096 x) there (record {
          after = this.after;
          within = let l = low in omega arith;
          before = this.before;
          here = λ b. this.here (let l = low in omega arith);
        });
        left = λ b. ap (λ (x : ℕ). (x * 2 ^ z) % 2 ^ 64) behind ∙ shift_twice (get_or ws (n / 64) 0) (n % 64 + 1) z
            ∙ ap₂ (λ (q t : ℕ). (get_or ws q 0 * 2 ^ t) % 2 ^ 64) same_word same_bit;
      },
    )
      where
        -- the bit of the word
        r : ℕ
        r = n % 64 + 1 + count_leading_zeros 64 ((get_or ws (n / 64) 0 * 2 ^ (n % 64 + 1)) % 2 ^ 64)

        low : r < 64
        low = left_low (get_or ws (n / 64) 0) (n % 64 + 1) inner more

        is : n % 64 + 1 + z ≡ r
        is = ap (λ (x : ℕ). n % 64 + 1 + x) (ez ∙ ap (count_leading_zeros 64) behind)

        this : NextNumber ws (n + 1) (n / 64 * 64 + 64) (n / 64 * 64 + r)
        this = let q : n / 64 * 64 + (n % 64 + 1) ≡ n + 1 = omega arith in
            subst (λ (x : ℕ). NextNumber ws x (n / 64 * 64 + 64) (n / 64 * 64 + r)) q
            (at_bit ws (n / 64) (n % 64 + 1) (omega arith) inner on r (one_left (get_or ws (n / 64) 0) (n % 64 + 1) inner more))

        there : n / 64 * 64 + r ≡ n + 1 + z
        there = let q = is in omega arith

        same_word : n / 64 ≡ (n + 1 + z) / 64
        same_word = let q = is in let l = low in omega arith

        same_bit : n % 64 + 1 + z ≡ (n + 1 + z) % 64
        same_bit = let q = is in let l = low in omega arith

-- ---- all that come

module _ (ws : List ℕ) where
  -- none of them
  members_none : (n k : ℕ) → ((j : ℕ) → k ≤ j → j < k + n → has ws j ≡ false) → members ws n k ≡ []
  unfolding members
  members_none zero k h = refl
  members_none (suc n) k h =
      ap (λ (b : Bool). cond b (k ∷ members ws n (suc k)) (members ws n (suc k))) (h k (omega arith) (omega arith))
      ∙ members_none n (suc k) (λ j a b. h j (omega arith) (omega arith))

  -- not the first m
  members_skip : (m n k : ℕ) → ((j : ℕ) → k ≤ j → j < k + m → has ws j ≡ false) → members ws (m + n) k ≡ members ws n (k + m)
  unfolding members
  members_skip zero n k h = ap₂ (members ws) (zero-add n) (sym (add-zero k))
  members_skip (suc m) n k h =
      ap (λ (j : ℕ). members ws j k) (suc-add m n)
      ∙ ap (λ (b : Bool). cond b (k ∷ members ws (m + n) (suc k)) (members ws (m + n) (suc k))) (h k (omega arith) (omega arith))
      ∙ members_skip m n (suc k) (λ j a b. h j (omega arith) (omega arith)) ∙ ap (members ws n) (omega arith)

  pub coming : (from : ℕ) → from ≤ 4096 → (o : Option NumberAndRest) → NextAndRestOf ws from o → members ws (4096 - from) from ≡ members_on ws o
  coming from l None f = members_none (4096 - from) from (λ j a b. f.before j a (omega arith))
  coming from l (Some s) f =
      let n = f.1.first in
      let m : ℕ = s.at - from in
      let e : 4096 - from ≡ m + (4096 - s.at) = omega (arith, f.0, n.after) in
      let at : from + m ≡ s.at = omega (arith, n.after) in
      ap (λ (j : ℕ). members ws j from) e ∙ members_skip m (4096 - s.at) from (λ j a b. n.before j a (omega (arith, n.after))) ∙ ap (members ws (4096 - s.at)) at

  -- the first of them
  pub comes : (s : NumberAndRest) → IsNext ws s → (o : Option NumberAndRest) → NextAndRestOf ws (s.at + 1) o → members_on ws (Some s) ≡ s.at ∷ members_on ws o
  unfolding members
  comes s i o f =
      let e : 4096 - s.at ≡ suc (4096 - (s.at + 1)) = omega (arith, i.low) in
      ap (λ (j : ℕ). members ws j s.at) e
      ∙ ap (λ (b : Bool). cond b (s.at ∷ members ws (4096 - (s.at + 1)) (suc s.at)) (members ws (4096 - (s.at + 1)) (suc s.at))) i.member
      ∙ ap (λ (l : List ℕ). s.at ∷ l) (ap (members ws (4096 - (s.at + 1))) (omega arith) ∙ coming (s.at + 1) (omega (arith, i.low)) o f)
