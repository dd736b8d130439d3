-- The index, slot by slot: the new slot is the last of its bucket, and its link leads to the one that was.
use mathlib.Core.Path.{◌≡◌, sym, ap, subst, ◌∙◌}
use mathlib.Core.List.{List, ◌++◌}
use Prim.Native.Nat.{ℕ, ◌+◌, ◌-◌, ◌*◌, ◌≤◌, ◌<◌}
use native.Mathlib.Decide.{ℕ_discrete, dec_lt}
use native.Mathlib.Omega.{arith}
use lib.ListN.{length, get_or, take, drop, set, replicate, length-set, length-take, length-drop, length-append, length-replicate, get_or-append}
use lib.Seq.{ext_get_or, get_or-take, get_or-drop, get_or-set_same, get_or-set_other}
use Rattle.names.specs.Index.{bucket_of, bucket_at, Last, Indexed}
use Rattle.names.specs.Leaves.{Says}
use Rattle.names.specs.Slots.{zero_at}

-- A slot that says a name has the name's bucket.
pub says_bucket : (t : List ℕ) (k : ℕ) (name : List ℕ) → 32 * k + 32 ≤ length t → length name < 32 → Says t k name → bucket_at t k ≡ bucket_of name
says_bucket t k name l short s =
    let n = get_or t (32 * k) 0 in
    let size : length (take n (drop (32 * k + 1) t)) ≡ length name = simp (length-take, length-drop) (omega (arith, s.size)) in
    ap bucket_of (ext_get_or 0 (take n (drop (32 * k + 1) t)) name size
    (λ i m. get_or-take n (drop (32 * k + 1) t) i 0 (omega (arith, s.size)) ∙ get_or-drop (32 * k + 1) t i 0 ∙ s.bytes i (omega arith)))

-- Heads of 0 are the index of no slots, whatever the links are.
pub indexed_none : (t index heads : List ℕ) → length index ≡ 2048 → heads ≡ replicate (length (take 1024 index)) 0 → Indexed t 0 (heads ++ drop 1024 index)
indexed_none t index heads size e =
    let most : length heads ≡ 1024 = omega (arith, ap length e, length-replicate {A = ℕ} (length (take 1024 index)) 0, length-take 1024 index) in
    let zeros : (h : ℕ) → h < 1024 → get_or (heads ++ drop 1024 index) h 0 ≡ 0 =
    λ h l. get_or-append heads (drop 1024 index) 0 h (omega arith) ∙ ap (λ (x : List ℕ). get_or x h 0) e ∙ zero_at (length (take 1024 index)) h in
    record {
      size = omega (arith, length-append heads (drop 1024 index), length-drop 1024 index);
      most = omega arith;
      inside = omega arith;
      heads = λ h l. let z = zeros h l in record { within = omega arith; here = λ p. absurd (omega arith); none = λ k a b. absurd (omega arith) };
      links = λ k l. absurd (omega arith);
    }

module _ (t index : List ℕ) (s h : ℕ) (x : Indexed t s index) (few : s < 1024) (room : 32 * s + 32 ≤ length t) (low : h < 1024) (here : bucket_at t s ≡ h) where
  abbrev linked : List ℕ
  linked = set index (1024 + s) (get_or index h 0)

  abbrev after : List ℕ
  after = set linked h (s + 1)

  sized : length linked ≡ 2048
  sized = length-set index (1024 + s) (get_or index h 0) ∙ x.size

  -- The head of another bucket, and the link of another slot, stay.
  stays : (i : ℕ) → (i ≡ h → ⊥) → (i ≡ 1024 + s → ⊥) → get_or after i 0 ≡ get_or index i 0
  stays i f g = get_or-set_other linked h i (s + 1) 0 f ∙ get_or-set_other index (1024 + s) i (get_or index h 0) 0 g

  head : (g : ℕ) → g < 1024 → Dec (g ≡ h) → Last t (s + 1) g (get_or after g 0)
  head g l (yes e) =
      let last : get_or after g 0 ≡ s + 1 = ap (λ (i : ℕ). get_or after i 0) e ∙ get_or-set_same linked h (s + 1) 0 (omega (arith, sized)) in
      let one : s + 1 - 1 ≡ s = omega arith in
      subst (Last t (s + 1) g) (sym last)
      (record { within = omega arith; here = λ p. ap (bucket_at t) one ∙ here ∙ sym e; none = λ k a b. absurd (omega arith) })
  head g l (no f) =
      let old = x.heads g l in
      subst (Last t (s + 1) g) (sym (stays g f (λ e. omega arith)))
      (record { within = omega (arith, old.within); here = old.here; none = λ k a b. none old.none k a b (dec_lt k s) })
    where
      none : ((k : ℕ) → get_or index g 0 ≤ k → k < s → bucket_at t k ≡ g → ⊥) → (k : ℕ) → get_or index g 0 ≤ k → k < s + 1 → Dec (k < s) → bucket_at t k ≡ g → ⊥
      none old k a b (yes y) e = old k a y e
      none old k a b (no y) e = let last : k ≡ s = omega arith in f (sym e ∙ ap (bucket_at t) last ∙ here)

  link : (k : ℕ) → k < s + 1 → Dec (k < s) → Last t k (bucket_at t k) (get_or after (1024 + k) 0)
  link k l (yes y) = subst (Last t k (bucket_at t k)) (sym (stays (1024 + k) (λ e. omega arith) (λ e. omega arith))) (x.links k y)
  link k l (no y) =
      let last : k ≡ s = omega arith in
      let there : get_or after (1024 + s) 0 ≡ get_or index h 0 =
      get_or-set_other linked h (1024 + s) (s + 1) 0 (λ e. omega arith) ∙ get_or-set_same index (1024 + s) (get_or index h 0) 0 (omega (arith, x.size)) in
      subst (λ (i : ℕ). Last t i (bucket_at t i) (get_or after (1024 + i) 0)) (sym last)
      (subst (Last t s (bucket_at t s)) (sym there) (subst (λ (i : ℕ). Last t s i (get_or index h 0)) (sym here) (x.heads h low)))

  pub indexed_more : (x : List ℕ) → x ≡ after → Indexed t (s + 1) x
  indexed_more x e = subst (Indexed t (s + 1)) (sym e) (record {
    size = length-set linked h (s + 1) ∙ sized;
    most = omega arith;
    inside = omega arith;
    heads = λ g l. head g l (ℕ_discrete g h);
    links = λ k l. link k l (dec_lt k s);
  })

-- A search along a chain: the next slot to compare, counted from 1, has the name's bucket h, and none after it says the name.
pub record Chain (t : List ℕ) (held : ℕ) (name : List ℕ) (h next : ℕ) : Type 0 where
  pub within : next ≤ held
  pub here : 0 < next → bucket_at t (next - 1) ≡ h
  pub past : (k : ℕ) → next ≤ k → k < held → Says t k name → ⊥

module _ (t index : List ℕ) (held : ℕ) (x : Indexed t held index) (name : List ℕ) (short : length name < 32) (h : ℕ) (e : h ≡ bucket_of name) where
  said : (k : ℕ) → k < held → Says t k name → bucket_at t k ≡ h
  said k l s = says_bucket t k name (omega (arith, x.inside)) short s ∙ sym e

  -- One slot is compared, and its link leads further down.
  pub chain_on : (next new : ℕ) → Chain t held name h next → (next ≡ 0 → ⊥) → (Says t (next - 1) name → ⊥) → new ≡ get_or index (1024 + (next - 1)) 0 → Chain t held name h new
  chain_on next new c some other f =
      let w = c.within in
      let p : 0 < next = omega arith in
      let old = x.links (next - 1) (omega arith) in
      let v = old.within in
      subst (Chain t held name h) (sym f)
      (record { within = omega arith; here = λ q. old.here q ∙ c.here p; past = λ k a b s. past (c.here p) old.none k a b s (dec_lt k (next - 1)) (ℕ_discrete k (next - 1)) })
    where
      past : bucket_at t (next - 1) ≡ h → ((k : ℕ) → get_or index (1024 + (next - 1)) 0 ≤ k → k < next - 1 → bucket_at t k ≡ bucket_at t (next - 1) → ⊥)
          → (k : ℕ) → get_or index (1024 + (next - 1)) 0 ≤ k → k < held → Says t k name → Dec (k < next - 1) → Dec (k ≡ next - 1) → ⊥
      past g none k a b s (yes y) d = none k a y (said k b s ∙ sym g)
      past g none k a b s (no y) (yes z) = other (subst (λ (i : ℕ). Says t i name) z s)
      past g none k a b s (no y) (no z) = c.past k (omega arith) b s
