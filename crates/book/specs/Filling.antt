-- A list that is written place by place, from the first on, is in the end what was to be written.
use Rattle.std.specs.Prelude.{◌≡◌, refl, List, [], ◌∷◌, ◌++◌, map, ℕ, zero, suc, ◌+◌, ◌-◌, ◌*◌, ◌/◌, ◌%◌, ◌≤◌, ◌<◌, length, get_or, set, take, replicate}
use Rattle.std.proofs.Common.{sym, ap, ◌∙◌, arith, length-set, length-append, length-take, ext_get_or, get_or-set_same, get_or-set_other, get_or-append-add, get_or-take}
use Rattle.std.proofs.Math.Decide.{ℕ_discrete, dec_lt}
use Rattle.std.proofs.lemmas.List.{length-replicate, length-map}
use Rattle.std.proofs.lemmas.List.Edits.{fill_by_more}
use Rattle.std.proofs.Math.ListN.{get_or-append, get_or-eq_default}
use Rattle.layout.specs.Layout.{term_words}
use Rattle.bits.specs.Packed.{parts, fields}
use Rattle.bits.specs.Laws.{length_unpack, parts_zero, at_word}
use Rattle.book.specs.Memory.{blank_number, form_of}

-- the places below i have what g says
abbrev pub Filled : List ℕ → ℕ → (ℕ → ℕ) → Type 0
Filled l i g = (k : ℕ) → k < i → get_or l k 0 ≡ g k

pub filled_more : (l : List ℕ) (i x : ℕ) (g : ℕ → ℕ) → i < length l → x ≡ g i → Filled l i g → Filled (set l i x) (i + 1) g
filled_more l i x g h e f k b = ap (λ (z : ℕ). get_or (set l i z) k 0) e ∙ fill_by_more g l i 0 h f k b

pub filled_all : (l t : List ℕ) (i : ℕ) (g : ℕ → ℕ) → length l ≡ length t → length l ≤ i → ((k : ℕ) → k < length l → g k ≡ get_or t k 0) → Filled l i g → l ≡ t
filled_all l t i g e h same f = ext_get_or 0 l t e (λ k b. f k (omega arith) ∙ same k b)

-- all that stands from `from` on is zero
abbrev pub Zeros : List ℕ → ℕ → Type 0
Zeros fs from = (k : ℕ) → from ≤ k → get_or fs k 0 ≡ 0

pub zeros_are : (n k : ℕ) → ◌≡◌ {A = ℕ} (get_or (replicate n 0) k 0) 0
zeros_are zero k = refl
zeros_are (suc n) zero = refl
zeros_are (suc n) (suc k) = zeros_are n k

pub fields_long : (ws : List ℕ) → length (fields ws) ≡ 4 * length ws
fields_long ws = length_unpack 16 4 ws ∙ omega arith

-- four cells as one word: its fields are the cells of t from i on
abbrev pub Fours : List ℕ → ℕ → ℕ → Type 0
Fours t i w = (j : ℕ) → j < 4 → get_or (parts 16 4 w) j 0 ≡ get_or t (i + j) 0

pub fours_past : (t : List ℕ) (i : ℕ) → length t ≤ i → Fours t i 0
fours_past t i h j l = parts_zero 16 4 j ∙ sym (get_or-eq_default t 0 (omega arith))

pub fours_are : (t : List ℕ) (i a b c d : ℕ) → a < 65536 → b < 65536 → c < 65536 → d < 65536
    → a ≡ get_or t i 0 → b ≡ get_or t (i + 1) 0 → c ≡ get_or t (i + 2) 0 → d ≡ get_or t (i + 3) 0
    → Fours t i (((a * 65536 + b) * 65536 + c) * 65536 + d)
unfolding parts
fours_are t i a b c d ha hb hc hd ea eb ec ed zero l =
    let e : (((a * 65536 + b) * 65536 + c) * 65536 + d) / 281474976710656 % 65536 ≡ a = omega arith in
    let n : i ≡ i + 0 = omega arith in
    e ∙ ea ∙ ap (λ (z : ℕ). get_or t z 0) n
fours_are t i a b c d ha hb hc hd ea eb ec ed (suc zero) l =
    let e : (((a * 65536 + b) * 65536 + c) * 65536 + d) / 4294967296 % 65536 ≡ b = omega arith in
    e ∙ eb
fours_are t i a b c d ha hb hc hd ea eb ec ed (suc (suc zero)) l =
    let e : (((a * 65536 + b) * 65536 + c) * 65536 + d) / 65536 % 65536 ≡ c = omega arith in
    e ∙ ec
fours_are t i a b c d ha hb hc hd ea eb ec ed (suc (suc (suc zero))) l =
    let e : (((a * 65536 + b) * 65536 + c) * 65536 + d) / 1 % 65536 ≡ d = omega arith in
    e ∙ ed
fours_are t i a b c d ha hb hc hd ea eb ec ed (suc (suc (suc (suc j)))) l = absurd (omega arith)

-- one word more is written
pub filled_four : (t ws : List ℕ) (i w : ℕ) → i < length ws → Fours t (4 * i) w → Filled (fields ws) (4 * i) (λ k. get_or t k 0)
    → Filled (fields (set ws i w)) (4 * (i + 1)) (λ k. get_or t k 0)
filled_four t ws i w h e f k b = at (set ws i w) ∙ go (ℕ_discrete (k / 4) i)
  where
    whole : k / 4 * 4 + k % 4 ≡ k
    whole = omega arith

    low : k % 4 < 4
    low = omega arith

    at : (us : List ℕ) → get_or (fields us) k 0 ≡ get_or (parts 16 4 (get_or us (k / 4) 0)) (k % 4) 0
    at us = ap (λ (z : ℕ). get_or (fields us) z 0) (sym whole) ∙ at_word 16 4 us (k / 4) (k % 4) low

    go : Dec (k / 4 ≡ i) → get_or (parts 16 4 (get_or (set ws i w) (k / 4) 0)) (k % 4) 0 ≡ get_or t k 0
    go (yes q) =
        let n : 4 * i + k % 4 ≡ k = omega arith in
        ap (λ (z : ℕ). get_or (parts 16 4 (get_or (set ws i w) z 0)) (k % 4) 0) q
        ∙ ap (λ (z : ℕ). get_or (parts 16 4 z) (k % 4) 0) (get_or-set_same ws i w 0 h)
        ∙ e (k % 4) low ∙ ap (λ (z : ℕ). get_or t z 0) n
    go (no q) =
        ap (λ (z : ℕ). get_or (parts 16 4 z) (k % 4) 0) (get_or-set_other ws i (k / 4) w 0 q) ∙ sym (at ws) ∙ f k (omega arith)

-- a term and then zeros
pub padded : (t : List ℕ) (n k : ℕ) → get_or t k 0 ≡ get_or (t ++ replicate n 0) k 0
padded t n k = go (dec_lt k (length t))
  where
    go : Dec (k < length t) → get_or t k 0 ≡ get_or (t ++ replicate n 0) k 0
    go (yes h) = sym (get_or-append t (replicate n 0) 0 k h)
    go (no h) =
        let e : k ≡ length t + (k - length t) = omega arith in
        get_or-eq_default t 0 (omega arith)
        ∙ sym (ap (λ (z : ℕ). get_or (t ++ replicate n 0) z 0) e ∙ get_or-append-add t (replicate n 0) (k - length t) 0 ∙ zeros_are n (k - length t))

pub padded_long : (t : List ℕ) → length t ≤ 32 → length (t ++ replicate (32 - length t) 0) ≡ 32
padded_long t h = length-append t (replicate (32 - length t) 0) ∙ omega (arith, length-replicate {A = ℕ} (32 - length t) 0)

-- blank cells, and then one number
get_map : (f : ℕ → ℕ) (t : List ℕ) (k : ℕ) → k < length t → get_or (map f t) k 0 ≡ f (get_or t k 0)
get_map f [] k h = absurd (omega arith)
get_map f (c ∷ t) zero h = refl
get_map f (c ∷ t) (suc k) h = get_map f t k (omega arith)

pub rowed : (cells row : List ℕ) (size n : ℕ) → size ≤ length cells → length row ≡ 33 → size ≤ 32
    → Filled row size (λ k. blank_number (get_or cells k 0)) → ((k : ℕ) → size ≤ k → k < 33 → get_or row k 0 ≡ n)
    → take (size + 1) row ≡ form_of (take size cells) ++ (n ∷ [])
rowed cells row size n h e s f g = ext_get_or 0 (take (size + 1) row) (form_of (take size cells) ++ (n ∷ [])) long
    (λ k b. get_or-take (size + 1) row k 0 (below k b) ∙ go k b (dec_lt k size))
  where
    form_long : length (form_of (take size cells)) ≡ size
    form_long = length-map (take size cells) blank_number ∙ omega (arith, length-take size cells)

    long : length (take (size + 1) row) ≡ length (form_of (take size cells) ++ (n ∷ []))
    long = omega (arith, length-take (size + 1) row, length-append (form_of (take size cells)) (n ∷ []), form_long)

    below : (k : ℕ) → k < length (take (size + 1) row) → k < size + 1
    below k b = omega (arith, length-take (size + 1) row)

    go : (k : ℕ) → k < length (take (size + 1) row) → Dec (k < size) → get_or row k 0 ≡ get_or (form_of (take size cells) ++ (n ∷ [])) k 0
    go k b (yes l) =
        f k l ∙ ap blank_number (sym (get_or-take size cells k 0 l)) ∙ sym (get_map blank_number (take size cells) k (omega (arith, length-take size cells)))
        ∙ sym (get_or-append (form_of (take size cells)) (n ∷ []) 0 k (omega (arith, form_long)))
    go k b (no l) =
        let q : k ≡ size = let z = below k b in omega arith in
        let w : k ≡ length (form_of (take size cells)) + 0 = omega (arith, form_long) in
        g k (omega arith) (let z = below k b in omega arith)
        ∙ sym (ap (λ (z : ℕ). get_or (form_of (take size cells) ++ (n ∷ [])) z 0) w ∙ get_or-append-add (form_of (take size cells)) (n ∷ []) 0 0)

-- ---- four cells at a time, and zeros behind them

pub record Loading (ws cells : List ℕ) (i : ℕ) : Type 0 where
  pub long : length cells ≡ 32
  pub step : i % 4 ≡ 0
  pub low : i ≤ 32
  pub filled : Filled cells i (λ k. get_or (fields ws) k 0)
  pub rest : (k : ℕ) → i ≤ k → get_or cells k 0 ≡ 0

pub loading_none : (ws : List ℕ) → Loading ws (replicate 32 0) 0
loading_none ws = record { long = length-replicate {A = ℕ} 32 0; step = refl; low = omega arith; filled = λ k h. absurd (omega arith); rest = λ k h. zeros_are 32 k }

-- there is room for four more
pub room : (ws cells : List ℕ) (i size : ℕ) → Loading ws cells i → i < size → size ≤ 32 → i + 3 < 32
room ws cells i size f h l = let s = f.step in omega arith

pub loading_more : (ws cells : List ℕ) (i a b c d : ℕ) → Loading ws cells i → i + 3 < 32
    → a ≡ get_or (fields ws) i 0 → b ≡ get_or (fields ws) (i + 1) 0 → c ≡ get_or (fields ws) (i + 2) 0 → d ≡ get_or (fields ws) (i + 3) 0
    → Loading ws (set (set (set (set cells i a) (i + 1) b) (i + 2) c) (i + 3) d) (i + 4)
loading_more ws cells i a b c d f h ea eb ec ed = record {
  long = simp length-set f.long;
  step = let s = f.step in omega arith;
  low = omega arith;
  filled = λ k l. four k (omega arith);
  rest = λ k l. get_or-set_other (set (set (set cells i a) (i + 1) b) (i + 2) c) (i + 3) k d 0 (λ e. omega arith)
      ∙ get_or-set_other (set (set cells i a) (i + 1) b) (i + 2) k c 0 (λ e. omega arith)
      ∙ get_or-set_other (set cells i a) (i + 1) k b 0 (λ e. omega arith) ∙ get_or-set_other cells i k a 0 (λ e. omega arith) ∙ f.rest k (omega arith);
}
  where
    g : ℕ → ℕ
    g = λ k. get_or (fields ws) k 0

    inside : (l : List ℕ) (k : ℕ) → length l ≡ length cells → k < 32 → k < length l
    inside l k e b = let n = f.long in omega arith

    one : Filled (set cells i a) (i + 1) (λ k. get_or (fields ws) k 0)
    one = filled_more cells i a (λ k. get_or (fields ws) k 0) (inside cells i refl (omega arith)) ea f.filled

    two : Filled (set (set cells i a) (i + 1) b) (i + 1 + 1) (λ k. get_or (fields ws) k 0)
    two = filled_more (set cells i a) (i + 1) b (λ k. get_or (fields ws) k 0) (inside (set cells i a) (i + 1) (simp length-set) (omega arith)) eb one

    three : Filled (set (set (set cells i a) (i + 1) b) (i + 2) c) (i + 2 + 1) (λ k. get_or (fields ws) k 0)
    three = filled_more (set (set cells i a) (i + 1) b) (i + 2) c (λ k. get_or (fields ws) k 0)
        (inside (set (set cells i a) (i + 1) b) (i + 2) (simp length-set) (omega arith)) ec (λ k l. two k (omega arith))

    four : Filled (set (set (set (set cells i a) (i + 1) b) (i + 2) c) (i + 3) d) (i + 3 + 1) (λ k. get_or (fields ws) k 0)
    four = filled_more (set (set (set cells i a) (i + 1) b) (i + 2) c) (i + 3) d (λ k. get_or (fields ws) k 0)
        (inside (set (set (set cells i a) (i + 1) b) (i + 2) c) (i + 3) (simp length-set) (omega arith)) ed (λ k l. three k (omega arith))

pub loaded : (ws cells : List ℕ) (i size : ℕ) → length ws ≡ term_words → Zeros (fields ws) size → size ≤ i → Loading ws cells i → cells ≡ fields ws
loaded ws cells i size e z h f = ext_get_or 0 cells (fields ws) (let n = f.long in omega (arith, fields_long ws)) (λ k b. go k (dec_lt k i))
  where
    go : (k : ℕ) → Dec (k < i) → get_or cells k 0 ≡ get_or (fields ws) k 0
    go k (yes l) = f.filled k l
    go k (no l) = f.rest k (omega arith) ∙ sym (z k (omega arith))
