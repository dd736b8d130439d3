-- When a text is refused and with which number, in the words of P1: a token's refusal, else the fault that ended the reading, else 12.
use Rattle.std.specs.Prelude.{◌≡◌, ◌⊎◌, Bool, true, false, ℕ, zero, suc, ◌+◌, ◌-◌, ◌≤◌, ◌<◌, length, eqb, ltb}
use Rattle.std.proofs.Math.Path.{refl}
use Rattle.std.proofs.Common.{sym, ap, subst, ◌∙◌, inl, inr, arith, eqb-true, eq-eqb, ne_eqb, ltb-true, ltb-false, lt-ltb, le-ltb}
use mathlib.Core.List.{List, [], ◌∷◌}
use Rattle.std.proofs.lemmas.Bool.{eqb-false}
use Rattle.deciding.specs.Deciding.{pick}
use Rattle.names.specs.Name.{IsName, passes_as_name}
use Rattle.names.specs.Table.{slot_in}
use Rattle.names.specs.Cases.{is_name_decides, not_name}
use Rattle.tokens.specs.Bytes.{begins, is_upper_byte, is_escaped_byte, is_word_byte, head, tail}
use Rattle.tokens.specs.Tokens.{skip, Got, bare, quoted, escaped, token}
use Rattle.text.specs.Term.{Token, variable, name, Start, name_start, start_of, After, mark, after_of, Read, term, arguments}
use Rattle.text.specs.Naming.{number_of, naming}
use Rattle.text.specs.Text.{Answer, refused, padded, term_of, read_text}

-- ---- a token's refusal

-- The first token that is refused: bytes that are no name, or a variable that is none of the first sixteen.
pub data TokenRefused : (names variables : List (List ℕ)) → List Token → ℕ → Type 0 where
  no_name : {names variables : List (List ℕ)} {bytes : List ℕ} {arity : ℕ} {tokens : List Token} → ¬ (IsName bytes)
      → TokenRefused names variables (name bytes arity ∷ tokens) 11
  seventeenth : {names variables : List (List ℕ)} {word : List ℕ} {tokens : List Token} → 16 ≤ slot_in variables word
      → TokenRefused names variables (variable word ∷ tokens) 4
  later : {names variables : List (List ℕ)} {token : Token} {tokens : List Token} {k : ℕ} → (number_of names variables token).refusal ≡ 0
      → TokenRefused (number_of names variables token).names (number_of names variables token).variables tokens k
      → TokenRefused names variables (token ∷ tokens) k

module _ (names variables : List (List ℕ)) where
  variable_in : (word : List ℕ) → slot_in variables word < 16 → (number_of names variables (variable word)).refusal ≡ 0
  unfolding number_of
  variable_in word l = rw (lt-ltb (slot_in variables word) 16 l)

  variable_out : (word : List ℕ) → 16 ≤ slot_in variables word → (number_of names variables (variable word)).refusal ≡ 4
  unfolding number_of
  variable_out word l = rw (le-ltb (slot_in variables word) 16 l)

  name_in : (bytes : List ℕ) (arity : ℕ) → passes_as_name bytes ≡ true → (number_of names variables (name bytes arity)).refusal ≡ 0
  unfolding number_of
  name_in bytes arity e = rw e

  name_out : (bytes : List ℕ) (arity : ℕ) → passes_as_name bytes ≡ false → (number_of names variables (name bytes arity)).refusal ≡ 11
  unfolding number_of
  name_out bytes arity e = rw e

  -- a token that is refused
  here : (token : Token) (tokens : List Token) (k : ℕ) → (number_of names variables token).refusal ≡ k → ¬ (k ≡ 0) → TokenRefused names variables (token ∷ tokens) k
  here (variable word) tokens k e n = go (ltb (slot_in variables word) 16) refl
    where
      go : (b : Bool) → ltb (slot_in variables word) 16 ≡ b → TokenRefused names variables (variable word ∷ tokens) k
      go true q = absurd (n (sym e ∙ variable_in word (ltb-true (slot_in variables word) 16 q)))
      go false q =
          let l = ltb-false (slot_in variables word) 16 q in
          subst (TokenRefused names variables (variable word ∷ tokens)) (sym (variable_out word l) ∙ e) (seventeenth l)
  here (name bytes arity) tokens k e n = go (passes_as_name bytes) refl
    where
      go : (b : Bool) → passes_as_name bytes ≡ b → TokenRefused names variables (name bytes arity ∷ tokens) k
      go true q = absurd (n (sym e ∙ name_in bytes arity q))
      go false q =
          subst (TokenRefused names variables (name bytes arity ∷ tokens)) (sym (name_out bytes arity q) ∙ e) (no_name ((is_name_decides bytes).no q))

-- what is named after a token that is taken, and after one that is refused
module _ (names variables : List (List ℕ)) (token : Token) (tokens : List Token) where
  taken : (number_of names variables token).refusal ≡ 0
      → (naming names variables (token ∷ tokens)).refusal ≡ (naming (number_of names variables token).names (number_of names variables token).variables tokens).refusal
  unfolding naming
  taken e = rw (eq-eqb (number_of names variables token).refusal 0 e)

  not_taken : ¬ ((number_of names variables token).refusal ≡ 0) → (naming names variables (token ∷ tokens)).refusal ≡ (number_of names variables token).refusal
  unfolding naming
  not_taken n = rw (ne_eqb (number_of names variables token).refusal 0 n)

pub of_naming : (names variables : List (List ℕ)) (tokens : List Token) (k : ℕ) → (naming names variables tokens).refusal ≡ k → ¬ (k ≡ 0)
    → TokenRefused names variables tokens k
unfolding naming
of_naming names variables [] k e n = absurd (n (sym e))
of_naming names variables (token ∷ tokens) k e n =
    go (λ h. of_naming (number_of names variables token).names (number_of names variables token).variables tokens k h n)
    (eqb (number_of names variables token).refusal 0) refl
  where
    go : ((naming (number_of names variables token).names (number_of names variables token).variables tokens).refusal ≡ k
        → TokenRefused (number_of names variables token).names (number_of names variables token).variables tokens k)
        → (b : Bool) → eqb (number_of names variables token).refusal 0 ≡ b → TokenRefused names variables (token ∷ tokens) k
    go others true q =
        let z = eqb-true (number_of names variables token).refusal 0 q in
        later z (others (sym (taken names variables token tokens z) ∙ e))
    go others false q =
        let z = eqb-false (number_of names variables token).refusal 0 q in
        here names variables token tokens k (sym (not_taken names variables token tokens z) ∙ e) n

pub to_naming : {names variables : List (List ℕ)} {tokens : List Token} {k : ℕ} → TokenRefused names variables tokens k → (naming names variables tokens).refusal ≡ k
to_naming (no_name {names} {variables} {bytes} {arity} {tokens} n) =
    let e = name_out names variables bytes arity (not_name bytes n) in
    not_taken names variables (name bytes arity) tokens (λ z. absurd (omega arith)) ∙ e
to_naming (seventeenth {names} {variables} {word} {tokens} l) =
    let e = variable_out names variables word l in
    not_taken names variables (variable word) tokens (λ z. absurd (omega arith)) ∙ e
to_naming (later {names} {variables} {token} {tokens} z r) = taken names variables token tokens z ∙ to_naming r

-- its number is 11 or 4
pub token_number : {names variables : List (List ℕ)} {tokens : List Token} {k : ℕ} → TokenRefused names variables tokens k → (4 ≤ k) × (k ≤ 11) × ¬ (k ≡ 5)
token_number (no_name n) = (omega arith, omega arith, λ e. absurd (omega arith))
token_number (seventeenth l) = (omega arith, omega arith, λ e. absurd (omega arith))
token_number (later z r) = token_number r

-- ---- the fault that ends a reading

-- No fault, a thirty-third cell, no term can go on, an eighth argument.
pub data Fault : ℕ → Type 0 where
  none : Fault 0
  long : Fault 5
  stuck : Fault 20
  many : Fault 21

-- what holds of both holds of the one that is picked
picked : {X : Type 0} (P : X → Type 0) (b : Bool) {x y : X} → P x → P y → P (pick b x y)
picked P true p q = p
picked P false p q = q

abbrev GotFault : Got → Type 0
GotFault got = Fault got.fault

mutual
  unfolding quoted escaped

  quoted_fault : (text : List ℕ) → GotFault (quoted text)
  quoted_fault [] = stuck
  quoted_fault (byte ∷ bytes) = picked GotFault (eqb byte 39) none (picked GotFault (eqb byte 92) (escaped_fault bytes) (quoted_fault bytes))

  escaped_fault : (text : List ℕ) → GotFault (escaped text)
  escaped_fault [] = stuck
  escaped_fault (byte ∷ bytes) = picked GotFault (is_escaped_byte byte) (quoted_fault bytes) stuck

bare_fault : (text : List ℕ) → GotFault (bare text)
unfolding bare
bare_fault [] = none
bare_fault (byte ∷ bytes) = picked GotFault (is_word_byte byte) (bare_fault bytes) none

token_fault : (text : List ℕ) → GotFault (token text)
unfolding token
token_fault text = picked GotFault (eqb (head text) 39) (quoted_fault (tail text)) (bare_fault text)

abbrev StartFault : Start → Type 0
StartFault start = Fault start.fault

start_fault : (argument left : ℕ) (text : List ℕ) → StartFault (start_of argument left text)
unfolding start_of name_start
start_fault argument left text =
    picked StartFault (begins (head text))
    (picked StartFault (eqb argument 8) many (picked StartFault (eqb left 0) long (picked StartFault (is_upper_byte (head text)) none
    (picked StartFault (eqb (token text).fault 0) (picked StartFault (eqb (head (skip (token text).rest)) 40) none none) (token_fault text)))))
    stuck

abbrev AfterFault : After → Type 0
AfterFault after = Fault after.fault

after_fault : (fault : ℕ) (text : List ℕ) → Fault fault → AfterFault (after_of fault text)
unfolding after_of mark
after_fault fault text f =
    picked AfterFault (eqb fault 0) (picked AfterFault (eqb (head (skip text)) 44) none (picked AfterFault (eqb (head (skip text)) 41) none stuck)) f

abbrev ReadFault : Read → Type 0
ReadFault read = Fault read.fault

mutual
  unfolding term arguments

  pub term_fault : (steps argument left : ℕ) (text : List ℕ) → ReadFault (term steps argument left text)
  term_fault zero argument left text = stuck
  term_fault (suc steps) argument left text =
      picked ReadFault (eqb (start_of argument left text).fault 0)
      (picked ReadFault (start_of argument left text).opens (arguments_fault steps 0 (left - 1) (start_of argument left text).rest) none)
      (start_fault argument left text)

  arguments_fault : (steps count left : ℕ) (text : List ℕ) → ReadFault (arguments steps count left text)
  arguments_fault zero count left text = stuck
  arguments_fault (suc steps) count left text =
      let one = term steps (count + 1) left (skip text) in
      let a = after_of one.fault one.rest in
      picked ReadFault a.comma (arguments_fault steps (count + 1) (left - length one.tokens) a.rest)
      (after_fault one.fault one.rest (term_fault steps (count + 1) left (skip text)))

-- ---- the answer

-- The tokens of a text, the fault that ended its reading or 0, and where it ended.
abbrev pub tokens_of : (text : List ℕ) → List Token
tokens_of text = (term_of text).tokens

abbrev pub fault_of : (text : List ℕ) → ℕ
fault_of text = (term_of text).fault

abbrev pub stop_of : (text : List ℕ) → ℕ
stop_of text = length text - length (term_of text).rest

-- No token is refused; the names with the new ones; and the answer of a text that is read.
abbrev pub AllTaken : (names : List (List ℕ)) (text : List ℕ) → Type 0
AllTaken names text = (k : ℕ) → ¬ (TokenRefused names [] (tokens_of text) k)

abbrev pub names_with : (names : List (List ℕ)) (text : List ℕ) → List (List ℕ)
names_with names text = (naming names [] (tokens_of text)).names

abbrev pub whole : (names : List (List ℕ)) (text : List ℕ) → Answer
whole names text = record {
  refusal = 0;
  place = stop_of text;
  size = length (naming names [] (tokens_of text)).cells;
  cells = padded (naming names [] (tokens_of text)).cells;
  names = names_with names text;
}

module _ (names : List (List ℕ)) (free : ℕ) (text : List ℕ) where
  -- what the answer is, and why
  pub data Because : Answer → Type 0 where
    a_token : {k : ℕ} → TokenRefused names [] (tokens_of text) k → Because (refused names k 0)
    a_fault : {k : ℕ} → AllTaken names text → (fault_of text) ≡ k → ¬ (k ≡ 0) → Because (refused names k (pick (eqb k 20) (stop_of text) 0))
    no_room : AllTaken names text → (fault_of text) ≡ 0 → length names + free < length (names_with names text) → Because (refused names 12 0)
    is_read : AllTaken names text → (fault_of text) ≡ 0 → length (names_with names text) ≤ length names + free → Because (whole names text)

  all_taken : (naming names [] (tokens_of text)).refusal ≡ 0 → AllTaken names text
  all_taken e k r = let z = to_naming r in let n = (token_number r).0 in absurd (omega arith)

  by_tests : (a b c : Bool) → eqb (naming names [] (tokens_of text)).refusal 0 ≡ a → eqb (fault_of text) 0 ≡ b → ltb (length names + free) (length (names_with names text)) ≡ c
      → Because (pick a (pick b (pick c (refused names 12 0) (whole names text)) (refused names (fault_of text) (pick (eqb (fault_of text) 20) (stop_of text) 0)))
      (refused names (naming names [] (tokens_of text)).refusal 0))
  by_tests true true true p q r =
      no_room (all_taken (eqb-true (naming names [] (tokens_of text)).refusal 0 p)) (eqb-true (fault_of text) 0 q) (ltb-true (length names + free) (length (names_with names text)) r)
  by_tests true true false p q r =
      is_read (all_taken (eqb-true (naming names [] (tokens_of text)).refusal 0 p)) (eqb-true (fault_of text) 0 q) (ltb-false (length names + free) (length (names_with names text)) r)
  by_tests true false c p q r = a_fault (all_taken (eqb-true (naming names [] (tokens_of text)).refusal 0 p)) refl (eqb-false (fault_of text) 0 q)
  by_tests false b c p q r = a_token (of_naming names [] (tokens_of text) (naming names [] (tokens_of text)).refusal refl (eqb-false (naming names [] (tokens_of text)).refusal 0 p))

  pub because : Because (read_text names free text)
  unfolding read_text
  because =
      by_tests (eqb (naming names [] (tokens_of text)).refusal 0) (eqb (fault_of text) 0) (ltb (length names + free) (length (names_with names text))) refl refl refl

  -- a token's refusal, of which there is one
  pub of_token : {a : Answer} {k : ℕ} → Because a → TokenRefused names [] (tokens_of text) k → a ≡ refused names k 0
  of_token (a_token r) s = ap (λ (k : ℕ). refused names k 0) (sym (to_naming r) ∙ to_naming s)
  of_token {k = k} (a_fault t e n) s = absurd (t k s)
  of_token {k = k} (no_room t e l) s = absurd (t k s)
  of_token {k = k} (is_read t e l) s = absurd (t k s)

  -- .. or the reading's (fault_of text)
  pub of_fault : {a : Answer} → Because a → AllTaken names text → ¬ ((fault_of text) ≡ 0) → a ≡ refused names (fault_of text) (pick (eqb (fault_of text) 20) (stop_of text) 0)
  of_fault (a_token {k} r) t n = absurd (t k r)
  of_fault (a_fault s e m) t n = ap (λ (k : ℕ). refused names k (pick (eqb k 20) (stop_of text) 0)) (sym e)
  of_fault (no_room s e l) t n = absurd (n e)
  of_fault (is_read s e l) t n = absurd (n e)

  -- .. or 12
  pub of_room : {a : Answer} → Because a → AllTaken names text → (fault_of text) ≡ 0 → length names + free < length (names_with names text) → a ≡ refused names 12 0
  of_room (a_token {k} r) t z h = absurd (t k r)
  of_room (a_fault s e m) t z h = absurd (m (sym e ∙ z))
  of_room (no_room s e l) t z h = refl
  of_room (is_read s e l) t z h = absurd (omega arith)

  -- .. or none
  pub of_none : {a : Answer} → Because a → AllTaken names text → (fault_of text) ≡ 0 → length (names_with names text) ≤ length names + free → a ≡ (whole names text)
  of_none (a_token {k} r) t z h = absurd (t k r)
  of_none (a_fault s e m) t z h = absurd (m (sym e ∙ z))
  of_none (no_room s e l) t z h = absurd (omega arith)
  of_none (is_read s e l) t z h = refl

  -- and from the number to its reason
  fault_number : Fault (fault_of text)
  fault_number = term_fault 66 0 32 (skip text)

  pub token_back : {a : Answer} {k : ℕ} → Because a → a.refusal ≡ k → (k ≡ 11) ⊎ (k ≡ 4) → TokenRefused names [] (tokens_of text) k
  token_back (a_token r) e c = subst (TokenRefused names [] (tokens_of text)) e r
  token_back {k = k} (a_fault t f n) e c = absurd (not_token fault_number (f ∙ e) c)
    where
      not_token : {m : ℕ} → Fault m → m ≡ k → (k ≡ 11) ⊎ (k ≡ 4) → ⊥
      not_token none q (inl d) = omega arith
      not_token none q (inr d) = omega arith
      not_token long q (inl d) = omega arith
      not_token long q (inr d) = omega arith
      not_token stuck q (inl d) = omega arith
      not_token stuck q (inr d) = omega arith
      not_token many q (inl d) = omega arith
      not_token many q (inr d) = omega arith
  token_back (no_room t f l) e (inl d) = absurd (omega arith)
  token_back (no_room t f l) e (inr d) = absurd (omega arith)
  token_back (is_read t f l) e (inl d) = absurd (omega arith)
  token_back (is_read t f l) e (inr d) = absurd (omega arith)

  not_token : {k : ℕ} → TokenRefused names [] (tokens_of text) k → (k ≡ 20) ⊎ ((k ≡ 21) ⊎ (k ≡ 5)) → ⊥
  not_token r (inl d) = let h = token_number r in omega (arith, h.1)
  not_token r (inr (inl d)) = let h = token_number r in omega (arith, h.1)
  not_token r (inr (inr d)) = (token_number r).2 d

  pub fault_back : {a : Answer} {k : ℕ} → Because a → a.refusal ≡ k → (k ≡ 20) ⊎ ((k ≡ 21) ⊎ (k ≡ 5)) → AllTaken names text × ((fault_of text) ≡ k)
  fault_back (a_token r) e c = absurd (not_token (subst (TokenRefused names [] (tokens_of text)) e r) c)
  fault_back (a_fault t f n) e c = (t, f ∙ e)
  fault_back (no_room t f l) e (inl d) = absurd (omega arith)
  fault_back (no_room t f l) e (inr (inl d)) = absurd (omega arith)
  fault_back (no_room t f l) e (inr (inr d)) = absurd (omega arith)
  fault_back (is_read t f l) e (inl d) = absurd (omega arith)
  fault_back (is_read t f l) e (inr (inl d)) = absurd (omega arith)
  fault_back (is_read t f l) e (inr (inr d)) = absurd (omega arith)

  not_12 : {m : ℕ} → Fault m → m ≡ 12 → ⊥
  not_12 none q = omega arith
  not_12 long q = omega arith
  not_12 stuck q = omega arith
  not_12 many q = omega arith

  pub room_back : {a : Answer} → Because a → a.refusal ≡ 12 → AllTaken names text × ((fault_of text) ≡ 0) × (length names + free < length (names_with names text))
  room_back (a_token r) e = let h = token_number r in absurd (omega (arith, h.1))
  room_back (a_fault t f n) e = absurd (not_12 fault_number (f ∙ e))
  room_back (no_room t f l) e = (t, f, l)
  room_back (is_read t f l) e = absurd (omega arith)

  -- 1 is for the table alone
  fault_not_1 : {m : ℕ} → Fault m → m ≡ 1 → ⊥
  fault_not_1 none q = omega arith
  fault_not_1 long q = omega arith
  fault_not_1 stuck q = omega arith
  fault_not_1 many q = omega arith

  pub not_1 : {a : Answer} → Because a → a.refusal ≡ 1 → ⊥
  not_1 (a_token r) e = let h = token_number r in omega (arith, h.0)
  not_1 (a_fault t f n) e = fault_not_1 fault_number (f ∙ e)
  not_1 (no_room t f l) e = omega arith
  not_1 (is_read t f l) e = omega arith
