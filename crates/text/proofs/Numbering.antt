-- A token's number, way by way.
use mathlib.Core.Path.{◌≡◌, refl, sym, ap, subst, ◌∙◌}
use mathlib.Core.List.{List, [], ◌∷◌, ◌++◌, append_assoc}
use mathlib.Core.Bool.{Bool, true, false}
use Prim.Native.Nat.{ℕ, ◌+◌, ◌-◌, ◌≤◌, ◌<◌}
use native.Mathlib.Omega.{arith}
use borrow.Author.Tests.{lt-ltb, le-ltb}
use lib.Dec.{ltb}
use lib.ListN.{length, drop, take, length-append, length-take}
use lib.Seq.{take_all}
use Rattle.std.specs.Prelude.{Result, Ok, Err}
use Rattle.names.specs.declared.refusal.Refusal.TheVariants.{NoName}
use Rattle.deciding.specs.Deciding.{pick, true_not_false}
use Rattle.names.specs.Name.{IsName, passes_as_name}
use Rattle.names.specs.Table.{slot_in, put}
use Rattle.names.specs.Cases.{is_name, not_name, slot_none, slot_left, slot_right, slot_within}
use Rattle.names.specs.Entering.{more_length, put_holds}
use Rattle.tokens.specs.Bytes.{is_upper_byte, head}
use Rattle.tokens.specs.Tokens.{Got, bare, token}
use Rattle.tokens.specs.Places.{Keeps}
use Rattle.text.specs.Term.{Token, variable, name}
use Rattle.text.specs.Naming.{entered, numbered, number_of}
use Rattle.text.specs.Refusals.{Refusal, Names, SeventeenthVariable}
use Rattle.text.specs.Leaves.{Stands, a_variable, a_name, GatheredNames, NumbersVariable, NumbersName, Numbers, EntersName}
use Rattle.text.proofs.Beginning.{upper_bare}

-- A word among others, held or new.
pub entered_old : (words : List (List ℕ)) (word : List ℕ) → slot_in words word < length words → entered words word ≡ words
unfolding entered
entered_old words word l = rw (lt-ltb (slot_in words word) (length words) l)

pub entered_new : (words : List (List ℕ)) (word : List ℕ) → length words ≤ slot_in words word → entered words word ≡ words ++ word ∷ []
unfolding entered
entered_new words word l = rw (le-ltb (slot_in words word) (length words) l)

-- A variable, and the words that are known after it.
module _ (names words : List (List ℕ)) (word : List ℕ) (known : List (List ℕ)) where
  variable_is : slot_in words word < 16 → number_of names words (variable word) ≡ numbered 0 (slot_in words word) names (entered words word)
  unfolding number_of
  variable_is l = rw (lt-ltb (slot_in words word) 16 l)

  pub variable_over : known ≡ words → 16 ≤ slot_in words word → NumbersVariable known (number_of names words (variable word)) (Err SeventeenthVariable)
  unfolding number_of
  variable_over k l = rw (le-ltb (slot_in words word) 16 l) (record { refusal_is = refl; number_is = refl; known_is = k })

  pub variable_old : known ≡ words → length words ≤ 16 → (number : ℕ) → number ≡ slot_in words word → number < length words
      → NumbersVariable known (number_of names words (variable word)) (Ok number)
  variable_old k few number is l =
      rw (variable_is (omega arith), entered_old words word (omega arith)) (record { refusal_is = refl; number_is = is; known_is = k })

  pub variable_new : known ≡ words ++ word ∷ [] → (number : ℕ) → number < 16 → number ≡ slot_in words word → length words ≤ number
      → NumbersVariable known (number_of names words (variable word)) (Ok number)
  variable_new k number room is l =
      rw (variable_is (omega arith), entered_new words word (omega arith)) (record { refusal_is = refl; number_is = is; known_is = k })

-- A name among those held and those gathered.
module _ {table fresh : List ℕ} {held new : ℕ} {names : List (List ℕ)} (g : GatheredNames table fresh held new names) (bytes : List ℕ) (slot : ℕ) (is : slot ≡ slot_in g.old bytes) where
  all_names : (x : ℕ) → slot_in (g.old ++ g.gathered) bytes ≡ x → slot_in names bytes ≡ x
  all_names x e = ap (λ (l : List (List ℕ)). slot_in l bytes) g.names_are ∙ e

  all_length : length names ≡ held + new
  all_length = let h = g.held_is in let n = g.new_is in ap length g.names_are ∙ length-append g.old g.gathered ∙ omega arith

  stays : slot_in names bytes < length names → GatheredNames table fresh held new (entered names bytes)
  stays l = subst (GatheredNames table fresh held new) (sym (entered_old names bytes l)) g

  pub name_held : slot < held → EntersName table fresh held new names bytes slot
  name_held l =
      let c = g.held_is in
      let e : slot_in names bytes ≡ slot = all_names slot (slot_left g.old g.gathered bytes (omega arith) ∙ sym is) in
      record { number_is = sym e; gathered = stays (omega (arith, all_length)) }

  module _ (over : held ≤ slot) (other : ℕ) (it : other ≡ slot_in g.gathered bytes) where
    behind : slot_in names bytes ≡ held + other
    behind = let c = g.held_is in all_names (held + other) (slot_right g.old g.gathered bytes (omega arith) ∙ omega arith)

    pub name_gathered : other < new → EntersName table fresh held new names bytes (held + other)
    name_gathered l = let b = behind in record { number_is = sym b; gathered = stays (omega (arith, all_length)) }

    pub name_new : new < 32 → new ≤ other → IsName bytes → (fresh' : List ℕ) → fresh' ≡ put fresh new bytes → EntersName table fresh' held (new + 1) names bytes (held + new)
    name_new room l named fresh' e =
        let b = behind in
        let c = g.new_is in
        let within : slot_in g.gathered bytes ≤ length g.gathered = slot_within g.gathered bytes in
        let less : 32 - new - 1 ≡ 32 - (new + 1) = omega arith in
        let missing = slot_none g.gathered bytes g.fresh_holds.apart (omega arith) in
        record {
          number_is = omega arith;
          gathered = record {
            old = g.old;
            gathered = g.gathered ++ bytes ∷ [];
            free = g.free;
            names_are = entered_new names bytes (omega (arith, all_length)) ∙ ap (λ (x : List (List ℕ)). x ++ bytes ∷ []) g.names_are ∙ append_assoc g.old g.gathered (bytes ∷ []);
            holds = g.holds;
            held_is = g.held_is;
            fresh_holds = rw (e, ← less) (rw c at (put_holds g.fresh_holds bytes (omega arith) named missing));
            new_is = more_length g.gathered bytes ∙ omega arith;
          };
        }

-- A token's bytes in the buffer: they are a name where the token's are one, and then the same.
module _ (buffer : List ℕ) (size : ℕ) (bytes : List ℕ) (k : Keeps buffer size bytes) where
  pub part_name : IsName (take size buffer) → take size buffer ≡ bytes
  part_name n =
      let short = (subst IsName k.bytes_are n).short in
      k.bytes_are ∙ take_all 32 bytes (omega (arith, length-take 32 bytes))

  pub part_none : (IsName (take size buffer) → ⊥) → IsName bytes → ⊥
  part_none f n = let short = n.short in f (subst IsName (sym (k.bytes_are ∙ take_all 32 bytes (omega arith))) n)

-- A name, by its test.
module _ {table fresh : List ℕ} {held new : ℕ} (names words : List (List ℕ)) (bytes : List ℕ) (arity : ℕ) where
  pub name_refused : (IsName bytes → ⊥) → GatheredNames table fresh held new names → NumbersName table fresh held new (number_of names words (name bytes arity)) (Err (Names NoName))
  unfolding number_of
  name_refused f g = rw (not_name bytes f) (record { refusal_is = refl; number_is = refl; gathered = g })

  pub name_numbered : (number : ℕ) {part : List ℕ} → part ≡ bytes → IsName part → EntersName table fresh held new names part number
      → NumbersName table fresh held new (number_of names words (name bytes arity)) (Ok number)
  unfolding number_of
  name_numbered number same n e =
      let f = subst (λ (x : List ℕ). EntersName table fresh held new names x number) same e in
      rw (is_name bytes (subst IsName same n)) (record { refusal_is = refl; number_is = f.number_is; gathered = f.gathered })

-- A variable leaves the names as they are, a name the variables.
names_stay : (names words : List (List ℕ)) (word : List ℕ) → (number_of names words (variable word)).names ≡ names
unfolding number_of
names_stay names words word = go (ltb (slot_in words word) 16)
  where
    go : (b : Bool) → (pick b (numbered 0 (slot_in words word) names (entered words word)) (numbered 4 0 names words)).names ≡ names
    go true = refl
    go false = refl

words_stay : (names words : List (List ℕ)) (bytes : List ℕ) (arity : ℕ) → (number_of names words (name bytes arity)).variables ≡ words
unfolding number_of
words_stay names words bytes arity = go (passes_as_name bytes)
  where
    go : (b : Bool) → (pick b (numbered 0 (slot_in names bytes) (entered names bytes) words) (numbered 11 0 names words)).variables ≡ words
    go true = refl
    go false = refl

-- A token, by its first byte.
module _ (text : List ℕ) (at : ℕ) (known : List (List ℕ)) (table fresh : List ℕ) (held new : ℕ) (r : Result ℕ Refusal)
    (names : List (List ℕ)) (token_is : Token) (after shape : ℕ) where
  pub numbers_variable : (known' : List (List ℕ)) → is_upper_byte (head (drop at text)) ≡ true
      → NumbersVariable known' (number_of names known (variable (bare (drop at text)).bytes)) r
      → Stands text (record { place = at; after = after; shape = shape }) token_is → GatheredNames table fresh held new names
      → Numbers known' table fresh held new (number_of names known token_is) r
  numbers_variable known' u x s g = go token_is s
    where
      go : (t : Token) → Stands text (record { place = at; after = after; shape = shape }) t
          → Numbers known' table fresh held new (number_of names known t) r
      go t (a_variable p o w s) =
          let same : t ≡ variable (bare (drop at text)).bytes = ap variable (sym w ∙ ap (λ (x : Got). x.bytes) (upper_bare (drop at text) u)) in
          rw same
          (record { refusal_is = x.refusal_is; number_is = x.number_is; known_is = x.known_is; gathered = rw (names_stay names known (bare (drop at text)).bytes) g })
      go t (a_name p o w l s) = absurd (true_not_false u o)

  pub numbers_name : (fresh' : List ℕ) (new' : ℕ) → is_upper_byte (head (drop at text)) ≡ false
      → ((arity : ℕ) → NumbersName table fresh' held new' (number_of names known (name (token (drop at text)).bytes arity)) r)
      → Stands text (record { place = at; after = after; shape = shape }) token_is
      → Numbers known table fresh' held new' (number_of names known token_is) r
  numbers_name fresh' new' u n s = go token_is s
    where
      go : (t : Token) → Stands text (record { place = at; after = after; shape = shape }) t
          → Numbers known table fresh' held new' (number_of names known t) r
      go t (a_variable p o w s) = absurd (true_not_false o u)
      go t (a_name {bytes = bytes} {arity = arity} p o w l s) =
          let x = rw w at (n arity) in
          record { refusal_is = x.refusal_is; number_is = x.number_is; known_is = sym (words_stay names known bytes arity); gathered = x.gathered }
