-- What is typed is a term: the cells of a text that is read are one whole term, so a batch never refuses them with 3, 4 or 5.
use Rattle.std.specs.Prelude.{◌≡◌, Bool, ℕ, zero, suc, ◌+◌, ◌-◌, ◌*◌, ◌/◌, ◌≤◌, ◌<◌, replicate, eqb, ltb, Ok, Result}
use Rattle.std.proofs.Math.Path.{refl, ap}
use Rattle.std.proofs.Common.{sym, subst, ◌∙◌, eqb-true, ltb-true, ltb-false, lt-ltb, le-ltb, length-append}
use mathlib.Core.List.{List, [], ◌∷◌, ◌++◌, append-nil}
use Rattle.std.proofs.Math.Bool.{true, false}
use native.Mathlib.Omega.{arith}
use Rattle.std.proofs.lemmas.Bool.{eqb-false, lt-leb}
use Rattle.std.proofs.Math.ListN.{length}
use Rattle.deciding.specs.Deciding.{pick}
use Rattle.names.specs.Name.{passes_as_name}
use Rattle.names.specs.Table.{slot_in}
use Rattle.names.specs.Cases.{slot_within}
use Rattle.term.specs.declared.reading.Fault.{Fault}
use Rattle.term.specs.declared.reading.Wants.{Wants}
use Rattle.term.specs.Reading.{calls_for, takes, go_on, read_from, read_term}
use Rattle.tokens.specs.Tokens.{skip}
use Rattle.text.specs.Term.{Token, variable, name, shape_of}
use Rattle.text.specs.Naming.{entered, numbered, number_of, TokenCells, naming}
use Rattle.text.specs.Steps.{first_taken, then_others, cells_many}
use Rattle.text.specs.Text.{Answer, term_of, read_text}
use Rattle.typed.specs.Refusals.{because, Because, a_token, a_fault, no_room, is_read, tokens_of, names_with, whole, AllTaken, of_naming, token_number}
use Rattle.typed.specs.Shaped.{TermRow, none, a_variable, a_name, term_more}

abbrev arity_of : Token → ℕ
arity_of (variable word) = 0
arity_of (name bytes arity) = arity

-- ---- a list with a word in it

entered_long : (words : List (List ℕ)) (word : List ℕ) → (length words ≤ length (entered words word)) × (slot_in words word < length (entered words word))
unfolding entered
entered_long words word = go (ltb (slot_in words word) (length words)) refl
  where
    go : (b : Bool) → ltb (slot_in words word) (length words) ≡ b
        → (length words ≤ length (pick b words (words ++ word ∷ []))) × (slot_in words word < length (pick b words (words ++ word ∷ [])))
    go true e = (omega arith, ltb-true (slot_in words word) (length words) e)
    go false e = let n = length-append words (word ∷ []) in (omega arith, omega (arith, slot_within words word))

-- ---- one token

takes_variable : (known s : ℕ) → s < 16 → s ≤ known → (c : Bool) → ltb s known ≡ c → takes known (32768 + s) ≡ calls_for 0 (pick c known (s + 1))
unfolding takes
takes_variable known s l h true e =
    let q = ltb-true s known e in
    let z : 32768 + s - 32768 ≡ s = omega arith in
    rw (le-ltb (32768 + s) 32768 (omega arith), lt-leb 36864 (32768 + s) (omega arith), z, le-ltb 15 s (omega arith), le-ltb known s h, e)
takes_variable known s l h false e =
    let z : 32768 + s - 32768 ≡ s = omega arith in
    rw (le-ltb (32768 + s) 32768 (omega arith), lt-leb 36864 (32768 + s) (omega arith), z, le-ltb 15 s (omega arith), le-ltb known s h, e)

takes_name : (known arity s : ℕ) → arity ≤ 7 → s < 4096 → takes known (arity * 4096 + s) ≡ calls_for arity known
unfolding takes
takes_name known arity s a l =
    let z : (arity * 4096 + s) / 4096 ≡ arity = omega arith in
    rw (lt-ltb (arity * 4096 + s) 32768 (omega arith)) (ap (λ (n : ℕ). calls_for n known) z)

entered_count : (words : List (List ℕ)) (word : List ℕ)
    → length (entered words word) ≡ pick (ltb (slot_in words word) (length words)) (length words) (slot_in words word + 1)
unfolding entered
entered_count words word = go (ltb (slot_in words word) (length words)) refl
  where
    go : (b : Bool) → ltb (slot_in words word) (length words) ≡ b → length (pick b words (words ++ word ∷ [])) ≡ pick b (length words) (slot_in words word + 1)
    go true e = refl
    go false e = let q = ltb-false (slot_in words word) (length words) e in let n = length-append words (word ∷ []) in omega (arith, slot_within words word)

-- its cell is taken for what it is, with as many variables known afterwards as its list has
pub record Taking (names variables : List (List ℕ)) (token : Token) : Type 0 where
  pub takes_is : takes (length variables) (shape_of token + (number_of names variables token).number) ≡ calls_for (arity_of token) (length (number_of names variables token).variables)
  pub few : length (number_of names variables token).variables ≤ 16
  pub grown : length names ≤ length (number_of names variables token).names

module _ (names variables : List (List ℕ)) (few : length variables ≤ 16) where
  variable_taking : (word : List ℕ) → (number_of names variables (variable word)).refusal ≡ 0 → Taking names variables (variable word)
  unfolding number_of
  variable_taking word e = go (ltb (slot_in variables word) 16) refl e
    where
      small : (b : Bool) → slot_in variables word < 16 → pick b (length variables) (slot_in variables word + 1) ≤ 16
      small true l = few
      small false l = omega arith

      go : (b : Bool) → ltb (slot_in variables word) 16 ≡ b
          → (pick b (numbered 0 (slot_in variables word) names (entered variables word)) (numbered 4 0 names variables)).refusal
          ≡ 0 → Taking names variables (variable word)
      go true q r =
          let l = ltb-true (slot_in variables word) 16 q in
          let w = slot_within variables word in
          let n = entered_count variables word in
          record {
            takes_is = rw q (takes_variable (length variables) (slot_in variables word) l w (ltb (slot_in variables word) (length variables)) refl ∙ ap (calls_for 0) (sym n));
            few = rw q (subst (λ (k : ℕ). k ≤ 16) (sym n) (small (ltb (slot_in variables word) (length variables)) l));
            grown = rw q (omega arith);
          }
      go false q r = absurd (omega arith)

  name_taking : (bytes : List ℕ) (arity : ℕ) → arity ≤ 7 → (number_of names variables (name bytes arity)).refusal ≡ 0
      → length (number_of names variables (name bytes arity)).names ≤ 4096 → Taking names variables (name bytes arity)
  unfolding number_of
  name_taking bytes arity a e most = go (passes_as_name bytes) refl e most
    where
      go : (b : Bool) → passes_as_name bytes ≡ b → (pick b (numbered 0 (slot_in names bytes) (entered names bytes) variables) (numbered 11 0 names variables)).refusal ≡ 0
          → length (pick b (numbered 0 (slot_in names bytes) (entered names bytes) variables) (numbered 11 0 names variables)).names ≤ 4096
          → Taking names variables (name bytes arity)
      go true q r m =
          let h = entered_long names bytes in
          record { takes_is = rw q (takes_name (length variables) arity (slot_in names bytes) a (omega (arith, h.1))); few = rw q few; grown = rw q h.0 }
      go false q r m = absurd (omega arith)

-- ---- all tokens

grows_one : (names variables : List (List ℕ)) (token : Token) → length names ≤ length (number_of names variables token).names
unfolding number_of
grows_one names variables (variable word) = go (ltb (slot_in variables word) 16)
  where
    go : (b : Bool) → length names ≤ length (pick b (numbered 0 (slot_in variables word) names (entered variables word)) (numbered 4 0 names variables)).names
    go true = omega arith
    go false = omega arith
grows_one names variables (name bytes arity) = go (passes_as_name bytes)
  where
    go : (b : Bool) → length names ≤ length (pick b (numbered 0 (slot_in names bytes) (entered names bytes) variables) (numbered 11 0 names variables)).names
    go true = (entered_long names bytes).0
    go false = omega arith

grows : (names variables : List (List ℕ)) (tokens : List Token) → (naming names variables tokens).refusal ≡ 0
    → length names ≤ length (naming names variables tokens).names
unfolding naming
grows names variables [] e = omega arith
grows names variables (token ∷ tokens) e =
    let z = first_taken names variables token tokens e in
    let q = then_others names variables token tokens z in
    let n = number_of names variables token in
    let h = grows n.names n.variables tokens (sym (ap (λ (x : TokenCells). x.refusal) q) ∙ e) in
    let g = grows_one names variables token in
    rw q (omega arith)

-- a token of terms is taken
taking : {w : ℕ} {token : Token} {tokens : List Token} → TermRow w (token ∷ tokens) → (names variables : List (List ℕ)) → length variables ≤ 16
    → (number_of names variables token).refusal ≡ 0 → length (number_of names variables token).names ≤ 4096 → Taking names variables token
taking (a_variable {word = word} t) names variables few e most = variable_taking names variables few word e
taking (a_name {bytes = bytes} {arity = arity} a t) names variables few e most = name_taking names variables few bytes arity a e most

-- and the others are terms again
pub record Others (w : ℕ) (token : Token) (tokens : List Token) : Type 0 where
  pub others : ℕ
  pub is : w ≡ suc others
  pub terms : TermRow (arity_of token + others) tokens

rest : {w : ℕ} {token : Token} {tokens : List Token} → TermRow w (token ∷ tokens) → Others w token tokens
rest (a_variable {n} {tokens = tokens} t) = record { others = n; is = refl; terms = (let z : n ≡ 0 + n = omega arith in subst (λ (k : ℕ). TermRow k tokens) z t) }
rest (a_name {n} a t) = record { others = n; is = refl; terms = t }

no_others : {w : ℕ} → TermRow w [] → w ≡ 0
no_others none = refl

read_one : (left w known place c a k : ℕ) (cells : List ℕ) → takes known c ≡ calls_for a k
    → read_from (suc left) (suc w) known place (c ∷ cells) ≡ read_from left (a + w) k (suc place) cells
unfolding read_from
read_one left w known place c a k cells e = ap (λ (t : Result Wants Fault). go_on t place (λ arity met. read_from left (arity + w) met (suc place) cells)) e

read_none : (left known place : ℕ) (cells : List ℕ) → read_from left 0 known place cells ≡ Ok place
unfolding read_from
read_none zero known place cells = refl
read_none (suc left) known place cells = refl

pub reads : (tokens : List Token) (w : ℕ) → TermRow w tokens → (names variables : List (List ℕ)) → length variables ≤ 16
    → (naming names variables tokens).refusal ≡ 0 → length (naming names variables tokens).names ≤ 4096
    → (left place : ℕ) (behind : List ℕ) → length tokens ≤ left
    → read_from left w (length variables) place ((naming names variables tokens).cells ++ behind) ≡ Ok (place + length tokens)
unfolding naming
reads [] w t names variables few e most left place behind l =
    let z : place ≡ place + 0 = omega arith in
    rw (no_others t) (read_none left (length variables) place behind ∙ ap Ok z)
reads (token ∷ tokens) w t names variables few e most zero place behind l = absurd (omega arith)
reads (token ∷ tokens) w t names variables few e most (suc left) place behind l =
    let z = first_taken names variables token tokens e in
    let q = then_others names variables token tokens z in
    let n = number_of names variables token in
    let e' : (naming n.names n.variables tokens).refusal ≡ 0 = sym (ap (λ (x : TokenCells). x.refusal) q) ∙ e in
    let m' : length (naming n.names n.variables tokens).names ≤ 4096 = subst (λ (x : TokenCells). length x.names ≤ 4096) q most in
    let g = grows n.names n.variables tokens e' in
    let k = taking t names variables few z (omega arith) in
    let r = rest t in
    let p : suc place + length tokens ≡ place + suc (length tokens) = omega arith in
    rw (q, r.is)
    (read_one left r.others (length variables) place (shape_of token + n.number) (arity_of token) (length n.variables)
    ((naming n.names n.variables tokens).cells ++ behind) k.takes_is
    ∙ reads tokens (arity_of token + r.others) r.terms n.names n.variables k.few e' m' left (suc place) behind (omega arith) ∙ ap Ok p)

-- ---- a text that is read

module _ (names : List (List ℕ)) (free : ℕ) (text : List ℕ) (most : length names + free ≤ 1024) where
  none_refused : AllTaken names text → (naming names [] (tokens_of text)).refusal ≡ 0
  none_refused a = go (eqb (naming names [] (tokens_of text)).refusal 0) refl
    where
      go : (b : Bool) → eqb (naming names [] (tokens_of text)).refusal 0 ≡ b → (naming names [] (tokens_of text)).refusal ≡ 0
      go true q = eqb-true (naming names [] (tokens_of text)).refusal 0 q
      go false q =
          let n = eqb-false (naming names [] (tokens_of text)).refusal 0 q in
          absurd (a (naming names [] (tokens_of text)).refusal (of_naming names [] (tokens_of text) _ refl n))

  one_term : (term_of text).fault ≡ 0 → TermRow 1 (tokens_of text)
  one_term e = subst (TermRow 1) (append-nil (tokens_of text)) ((term_more 66 0 32 (skip text) (omega arith) e).2 0 [] none)

  whole_term : AllTaken names text → (term_of text).fault ≡ 0 → length (names_with names text) ≤ length names + free
      → read_term (whole names text).cells ≡ Ok (whole names text).size
  unfolding read_term
  whole_term a e l =
      let z = none_refused a in
      let n = cells_many names [] (tokens_of text) z in
      let long = (term_more 66 0 32 (skip text) (omega arith) e).1 in
      let cells = (naming names [] (tokens_of text)).cells in
      let p : 0 + length (tokens_of text) ≡ length cells = omega (arith, n) in
      reads (tokens_of text) 1 (one_term e) names [] (omega arith) z (omega arith) 32 0 (replicate (32 - length cells) 0) long ∙ ap Ok p

  -- Its cells are one whole term of its size.
  pub typed_whole : (read_text names free text).refusal ≡ 0 → read_term (read_text names free text).cells ≡ Ok (read_text names free text).size
  typed_whole e = go (because names free text) e
    where
      go : {a : Answer} → Because names free text a → a.refusal ≡ 0 → read_term a.cells ≡ Ok a.size
      go (a_token r) z = let n = (token_number r).0 in absurd (omega arith)
      go (a_fault t f n) z = absurd (n z)
      go (no_room t f l) z = absurd (omega arith)
      go (is_read t f l) z = whole_term t f l
