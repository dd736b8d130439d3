-- A text that is read twice gives the same cells, and adds no name the second time.
use Rattle.std.specs.Prelude.{◌≡◌, refl, List, [], ◌∷◌, ◌++◌, Bool, true, false, ℕ, ◌+◌, ◌-◌, ◌≤◌, ◌<◌, eqb, ltb, length}
use Rattle.std.proofs.Common.{sym, ap, subst, ◌∙◌, append_assoc, append-nil, arith, eqb-true, lt-ltb, le-ltb, ltb-true, ltb-false, length-append}
use Rattle.std.proofs.lemmas.Bool.{eqb-false}
use Rattle.deciding.specs.Deciding.{pick}
use Rattle.names.specs.Name.{passes_as_name}
use Rattle.names.specs.Table.{slot_in}
use Rattle.names.specs.Cases.{same_self, slot_left, slot_right, slot_within}
use Rattle.text.specs.Term.{Token, variable, name, shape_of, Read}
use Rattle.text.specs.Naming.{entered, TokenNumber, numbered, number_of, TokenCells, named, cell_before, naming}
use Rattle.text.specs.Text.{Answer, answer, refused, padded, term_of, read_text}

-- A word that was entered is there, under the number that it got.
pub record EnteredOnce (names : List (List ℕ)) (word : List ℕ) : Type 0 where
  pub there : slot_in names word < length (entered names word)
  pub same_slot : slot_in (entered names word) word ≡ slot_in names word
  pub more : List (List ℕ)
  pub grown : entered names word ≡ names ++ more

last_slot : (names : List (List ℕ)) (word : List ℕ) → length names ≤ slot_in names word → slot_in (names ++ word ∷ []) word ≡ slot_in names word
unfolding slot_in
last_slot names word l =
    let w = slot_within names word in
    let here : slot_in (word ∷ []) word ≡ 0 = rw (same_self word) in
    slot_right names (word ∷ []) word l ∙ omega arith

pub is_entered : (names : List (List ℕ)) (word : List ℕ) → EnteredOnce names word
unfolding entered
is_entered names word = go (ltb (slot_in names word) (length names)) refl
  where
    go : (b : Bool) → ltb (slot_in names word) (length names) ≡ b → EnteredOnce names word
    go true e = let l = ltb-true (slot_in names word) (length names) e in record { there = rw e l; same_slot = rw e; more = []; grown = rw e (sym (append-nil names)) }
    go false e =
        let l = ltb-false (slot_in names word) (length names) e in
        let w = slot_within names word in
        record { there = rw e (omega (arith, length-append names (word ∷ []))); same_slot = rw e (last_slot names word l); more = word ∷ []; grown = rw e }

not_again : (names : List (List ℕ)) (word : List ℕ) → slot_in names word < length names → entered names word ≡ names
unfolding entered
not_again names word l = rw (lt-ltb (slot_in names word) (length names) l)

-- Among more names it has the same number, and isn't entered again.
module _ (names : List (List ℕ)) (word : List ℕ) (others : List (List ℕ)) where
  in_front : slot_in (entered names word) word < length (entered names word)
  in_front = let e = is_entered names word in subst (λ (x : ℕ). x < length (entered names word)) (sym e.same_slot) e.there

  slot_stays : slot_in (entered names word ++ others) word ≡ slot_in names word
  slot_stays = slot_left (entered names word) others word in_front ∙ (is_entered names word).same_slot

  enters_none : entered (entered names word ++ others) word ≡ entered names word ++ others
  enters_none =
      let s = slot_left (entered names word) others word in_front in
      let f = in_front in
      not_again (entered names word ++ others) word (omega (arith, length-append (entered names word) others))

-- The same of a token, ..
pub record Stays (names words : List (List ℕ)) (token : Token) (n : TokenNumber) : Type 0 where
  pub more : List (List ℕ)
  pub grown : n.names ≡ names ++ more
  pub again : (others : List (List ℕ)) → number_of (n.names ++ others) words token ≡ numbered 0 n.number (n.names ++ others) n.variables

token_stays : (names words : List (List ℕ)) (token : Token) → (number_of names words token).refusal ≡ 0 → Stays names words token (number_of names words token)
unfolding number_of
token_stays names words (variable word) z = go (ltb (slot_in words word) 16) refl z
  where
    go : (b : Bool) → ltb (slot_in words word) 16 ≡ b → (pick b (numbered 0 (slot_in words word) names (entered words word)) (numbered 4 0 names words)).refusal ≡ 0
        → Stays names words (variable word) (pick b (numbered 0 (slot_in words word) names (entered words word)) (numbered 4 0 names words))
    go true e z = record { more = []; grown = sym (append-nil names); again = λ others. rw e }
    go false e z = absurd (omega arith)
token_stays names words (name bytes arity) z = go (passes_as_name bytes) refl z
  where
    go : (b : Bool) → passes_as_name bytes ≡ b → (pick b (numbered 0 (slot_in names bytes) (entered names bytes) words) (numbered 11 0 names words)).refusal ≡ 0
        → Stays names words (name bytes arity) (pick b (numbered 0 (slot_in names bytes) (entered names bytes) words) (numbered 11 0 names words))
    go true e z = record {
      more = (is_entered names bytes).more;
      grown = (is_entered names bytes).grown;
      again = λ others. rw (e, slot_stays names bytes others, enters_none names bytes others);
    }
    go false e z = absurd (omega arith)

-- .. and of all tokens.
pub record Again (names words : List (List ℕ)) (tokens : List Token) (r : TokenCells) : Type 0 where
  pub more : List (List ℕ)
  pub grown : r.names ≡ names ++ more
  pub again : naming r.names words tokens ≡ r

one_again : (names words : List (List ℕ)) (token : Token) (tokens : List Token) (n : TokenNumber) (rest : TokenCells) → Stays names words token n → Again n.names n.variables tokens rest
    → Again names words (token ∷ tokens) (cell_before (shape_of token + n.number) rest)
unfolding naming
one_again names words token tokens n rest s a =
    let number : number_of rest.names words token ≡ numbered 0 n.number rest.names n.variables =
    subst (λ (x : List (List ℕ)). number_of x words token ≡ numbered 0 n.number x n.variables) (sym a.grown) (s.again a.more) in
    record {
      more = s.more ++ a.more;
      grown = a.grown ∙ ap (λ (x : List (List ℕ)). x ++ a.more) s.grown ∙ append_assoc names s.more a.more;
      again = rw number (ap (cell_before (shape_of token + n.number)) a.again);
    }

pub named_again : (names words : List (List ℕ)) (tokens : List Token) → (naming names words tokens).refusal ≡ 0 → Again names words tokens (naming names words tokens)
unfolding naming
named_again names words [] z = record { more = []; grown = sym (append-nil names); again = refl }
named_again names words (token ∷ tokens) z =
    let n : TokenNumber = number_of names words token in
    go (eqb n.refusal 0) n (naming n.names n.variables tokens) refl z (token_stays names words token) (named_again n.names n.variables tokens)
  where
    go : (b : Bool) (n : TokenNumber) (rest : TokenCells) → eqb n.refusal 0 ≡ b → (pick b (cell_before (shape_of token + n.number) rest) (named n.refusal [] names)).refusal ≡ 0
        → (n.refusal ≡ 0 → Stays names words token n) → (rest.refusal ≡ 0 → Again n.names n.variables tokens rest)
        → Again names words (token ∷ tokens) (pick b (cell_before (shape_of token + n.number) rest) (named n.refusal [] names))
    go true n rest e z s a = one_again names words token tokens n rest (s (eqb-true n.refusal 0 e)) (a z)
    go false n rest e z s a = absurd (eqb-false n.refusal 0 e z)

-- The answer by its three tests.
abbrev pub picked : (names : List (List ℕ)) (free : ℕ) (text : List ℕ) → Read → TokenCells → (a b c : Bool) → Answer
picked names free text r n a b c =
    pick a
    (pick b (pick c (refused names 12 0) (record { refusal = 0; place = length text - length r.rest; size = length n.cells; cells = padded n.cells; names = n.names }))
    (refused names r.fault (pick (eqb r.fault 20) (length text - length r.rest) 0)))
    (refused names n.refusal 0)

-- The second reading gives the first one's answer, whatever room is left.
pub read_again : (names : List (List ℕ)) (free : ℕ) (text : List ℕ) → (read_text names free text).refusal ≡ 0
    → (room : ℕ) → read_text (read_text names free text).names room text ≡ read_text names free text
unfolding read_text
read_again names free text z room = go (eqb n.refusal 0) (eqb r.fault 0) (ltb (length names + free) (length n.names)) refl refl refl z
  where
    r : Read
    r = term_of text

    n : TokenCells
    n = naming names [] (term_of text).tokens

    go : (a b c : Bool) → eqb n.refusal 0 ≡ a → eqb r.fault 0 ≡ b → ltb (length names + free) (length n.names) ≡ c → (picked names free text r n a b c).refusal ≡ 0
        → answer (picked names free text r n a b c).names room text r (naming (picked names free text r n a b c).names [] r.tokens) ≡ picked names free text r n a b c
    go true true false e f g h = let a = named_again names [] r.tokens (eqb-true n.refusal 0 e) in
        rw (a.again, e, f, le-ltb (length n.names + room) (length n.names) (omega arith))
    go true true true e f g h = absurd (omega arith)
    go true false c e f g h = absurd (eqb-false r.fault 0 f h)
    go false b c e f g h = absurd (eqb-false n.refusal 0 e h)
