-- What holds after a reading: the table still passes, and the same text read again changes nothing.
use Rattle.std.specs.Prelude.{◌≡◌, refl, List, [], ◌∷◌, ◌++◌, Bool, true, false, ℕ, ◌+◌, ◌-◌, ◌≤◌, eqb, ltb, length}
use Rattle.std.proofs.Common.{sym, ap, ap₂, subst, ◌∙◌, arith, ltb-false}
use Rattle.deciding.specs.Deciding.{pick}
use Rattle.names.specs.Name.{passes_as_name}
use Rattle.names.specs.Table.{Named, Apart, Holds, Passes, slot_in}
use Rattle.names.specs.Cases.{is_name_decides, slot_none}
use Rattle.names.specs.Entering.{more_named, more_apart}
use Rattle.names.specs.Once.{passes}
use Rattle.text.specs.Term.{Token, variable, name, shape_of}
use Rattle.text.specs.Naming.{entered, TokenNumber, numbered, number_of, TokenCells, named, cell_before, naming}
use Rattle.text.specs.Text.{Answer, term_of, read_text}
use Rattle.text.specs.declared.TextRead.{TextRead}
use Rattle.text.specs.Promises.{told, table_of, Reads, no_table, has_read, reads_once}
use Rattle.typed.specs.Twice.{picked, read_again}

-- Names of a table: each is one, and no two are equal.
pub record GoodNames (names : List (List ℕ)) : Type 0 where
  pub named : Named names
  pub apart : Apart names

good_entered : (names : List (List ℕ)) (bytes : List ℕ) → passes_as_name bytes ≡ true → GoodNames names → GoodNames (entered names bytes)
unfolding entered
good_entered names bytes i g = go (ltb (slot_in names bytes) (length names)) refl
  where
    go : (b : Bool) → ltb (slot_in names bytes) (length names) ≡ b → GoodNames (pick b names (names ++ bytes ∷ []))
    go true e = g
    go false e = record {
      named = more_named names bytes g.named ((is_name_decides bytes).yes i);
      apart = more_apart names bytes g.apart (slot_none names bytes g.apart (ltb-false (slot_in names bytes) (length names) e));
    }

good_number : (names words : List (List ℕ)) (token : Token) → GoodNames names → GoodNames (number_of names words token).names
unfolding number_of
good_number names words (variable word) g = go (ltb (slot_in words word) 16)
  where
    go : (b : Bool) → GoodNames (pick b (numbered 0 (slot_in words word) names (entered words word)) (numbered 4 0 names words)).names
    go true = g
    go false = g
good_number names words (name bytes arity) g = go (passes_as_name bytes) refl
  where
    go : (b : Bool) → passes_as_name bytes ≡ b → GoodNames (pick b (numbered 0 (slot_in names bytes) (entered names bytes) words) (numbered 11 0 names words)).names
    go true e = good_entered names bytes e g
    go false e = g

good_naming : (names words : List (List ℕ)) (tokens : List Token) → GoodNames names → GoodNames (naming names words tokens).names
unfolding naming
good_naming names words [] g = g
good_naming names words (token ∷ tokens) g =
    let n : TokenNumber = number_of names words token in
    go (eqb n.refusal 0) n (naming n.names n.variables tokens) (good_naming n.names n.variables tokens (good_number names words token g))
  where
    go : (b : Bool) (n : TokenNumber) (rest : TokenCells) → GoodNames rest.names → GoodNames (pick b (cell_before (shape_of token + n.number) rest) (named n.refusal [] names)).names
    go true n rest h = h
    go false n rest h = g

-- So are those of an answer, and there are no more than slots.
pub record Fits (slots : ℕ) (names : List (List ℕ)) : Type 0 where
  pub good : GoodNames names
  pub most : length names ≤ slots

names_fit : (names : List (List ℕ)) (free : ℕ) (text : List ℕ) → GoodNames names → Fits (length names + free) (read_text names free text).names
unfolding read_text
names_fit names free text g =
    let n : TokenCells = naming names [] (term_of text).tokens in
    go (eqb n.refusal 0) (eqb (term_of text).fault 0) (ltb (length names + free) (length n.names)) n refl (good_naming names [] (term_of text).tokens g)
  where
    same : Fits (length names + free) names
    same = record { good = g; most = omega arith }

    go : (a b c : Bool) (n : TokenCells) → ltb (length names + free) (length n.names) ≡ c → GoodNames n.names
        → Fits (length names + free) (picked names free text (term_of text) n a b c).names
    go true true false n e h = record { good = h; most = ltb-false (length names + free) (length n.names) e }
    go true true true n e h = same
    go true false c n e h = same
    go false b c n e h = same

-- The table after a reading passes.
module _ {before : List ℕ} {names : List (List ℕ)} {free : ℕ} (h : Holds before names free) (text : List ℕ) where
  fit : Fits (length names + free) (read_text names free text).names
  fit = names_fit names free text (record { named = h.named; apart = h.apart })

  pub holds_after : Holds (table_of (length names + free) (read_text names free text).names) (read_text names free text).names (length names + free - length (read_text names free text).names)
  holds_after =
      let f = fit in
      let some = h.some in
      let most = h.most in
      record { written = refl; some = omega arith; most = omega arith; named = f.good.named; apart = f.good.apart }

pub stays_passing : {before text : List ℕ} (r : TextRead) (after : List ℕ) → Reads before text r after → Passes before → Passes after
stays_passing r after (no_table f e l) p = absurd (f p)
stays_passing {before} {text} r after (has_read h e l) p = subst Passes (sym l) (passes (holds_after h text))

-- The same text again: the same answer, and the table stays.
pub read_twice : {before text : List ℕ} (r s : TextRead) (after last : List ℕ) → Reads before text r after → r.refusal ≡ 0 → Reads after text s last → (s ≡ r) × (last ≡ after)
read_twice r s after last (no_table f e l) z q = absurd (let y = ap (λ (x : TextRead). x.refusal) e in omega arith)
read_twice {before} {text} r s after last (has_read {names} {free} h e l) z q =
    let fine : (read_text names free text).refusal ≡ 0 = sym (ap (λ (x : TextRead). x.refusal) e) ∙ z in
    let room : ℕ = length names + free - length (read_text names free text).names in
    let same : read_text (read_text names free text).names room text ≡ read_text names free text = read_again names free text fine room in
    let slots : length (read_text names free text).names + room ≡ length names + free = let f = fit h text in let m = f.most in omega arith in
    let second : Reads after text r after = has_read (subst (λ (x : List ℕ). Holds x (read_text names free text).names room) (sym l) (holds_after h text))
    (e ∙ ap told (sym same)) (l ∙ ap₂ (λ (x : ℕ) (a : Answer). table_of x a.names) (sym slots) (sym same)) in
    reads_once s r last after q second
