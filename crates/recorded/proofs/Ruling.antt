-- A rule is right where its number, its place and its record are.
use mathlib.Core.Path.{◌≡◌, refl, sym, ap, ◌∙◌, subst}
use mathlib.Core.List.{List}
use mathlib.Core.Bool.{Bool, false}
use Prim.Native.Nat.{ℕ, ◌+◌, ◌-◌, ◌*◌, ◌%◌, ◌≤◌, ◌<◌}
use native.Mathlib.Omega.{arith}
use lib.ListN.{length, get_or, take, drop, length-take}
use lib.Seq.{get_or-take}
use Rattle.std.specs.Prelude.{Ok}
use Rattle.std.proofs.lemmas.List.{get_or-drop}
use Rattle.deciding.specs.Deciding.{Decides, true_not_false}
use Rattle.layout.specs.Layout.{rule_numbers, places_at, place_words, term_words, record_words, records_at, terms_at}
use Rattle.bits.specs.Packed.{fields}
use Rattle.term.specs.Reading.{read_term}
use Rattle.book.specs.Filling.{Zeros}
use Rattle.book.specs.Memory.{view, number, blank_number}
use Rattle.recorded.specs.Promises.{TermOf, TermDecided, RuleAt, RuleDecided}

-- What is asked of the way's blanks by a part of the cells and the words behind the first
abbrev pub SameParts : (cells behind : List ℕ) (depth : ℕ) → Type 0
SameParts cells behind depth =
    (j : ℕ) → j < length (take depth cells) → blank_number (get_or (take depth cells) j 0) ≡ blank_number (get_or behind j 0 % 65536)

pub term_decided : {words way cells behind : List ℕ} {depth : ℕ} → cells ≡ fields words → behind ≡ drop 1 way → depth ≤ length cells → read_term cells ≡ Ok depth
    → Zeros (fields words) depth → {b : Bool} → Decides (SameParts cells behind depth) b
    → Decides (TermOf words way depth) b
term_decided {words} {way} {cells} {behind} {depth} are rest short whole clean d = record {
  yes = λ q. record {
    whole = subst (λ (l : List ℕ). read_term l ≡ Ok depth) are whole;
    clean = clean;
    same = λ j l. ap blank_number (sym (cell j l)) ∙ d.yes q j (omega (arith, length-take depth cells)) ∙ ap (λ (x : ℕ). blank_number (x % 65536)) (last j);
  };
  no = λ q t. d.no q (λ j l. let k : j < depth = omega (arith, length-take depth cells) in
      ap blank_number (cell j k) ∙ t.same j k ∙ ap (λ (x : ℕ). blank_number (x % 65536)) (sym (last j)));
}
  where
    cell : (j : ℕ) → j < depth → get_or (take depth cells) j 0 ≡ get_or (fields words) j 0
    cell j l = get_or-take depth cells j 0 l ∙ ap (λ (x : List ℕ). get_or x j 0) are

    last : (j : ℕ) → get_or behind j 0 ≡ get_or way (j + 1) 0
    last j = ap (λ (x : List ℕ). get_or x j 0) rest ∙ get_or-drop 1 way j 0 ∙ ap (λ (i : ℕ). get_or way i 0) (let e : 1 + j ≡ j + 1 = omega arith in e)

module _ (ws : List ℕ) (k : ℕ) where
  size_is : get_or ws (terms_at + record_words * k - 1) 0 ≡ (view ws).size k
  size_is = let e : terms_at + record_words * k - 1 ≡ records_at + record_words * k = omega arith in ap (λ (j : ℕ). get_or ws j 0) e

module _ {ws way : List ℕ} {k depth : ℕ} where
  refused : ¬ (RuleAt ws way k depth) → RuleDecided ws way k depth false
  refused h = record { yes = λ q. absurd (true_not_false q refl); no = λ q. h }

  pub rule_long : ¬ (get_or ws (terms_at + record_words * k - 1) 0 ≡ depth) → RuleDecided ws way k depth false
  rule_long h = refused (λ r. h (size_is ws k ∙ r.size))

  module _ {n : ℕ} (is : n ≡ number (view ws) k) where
    pub rule_high : rule_numbers ≤ n → RuleDecided ws way k depth false
    rule_high h = refused (λ r. let l = r.low in omega arith)

    module _ {p : ℕ} (e : p ≡ get_or (fields (take place_words (drop places_at ws))) n 0) where
      pub rule_lost : ¬ (p ≡ k) → RuleDecided ws way k depth false
      rule_lost h = refused (λ r. h (e ∙ ap (view ws).place is ∙ r.found))

      pub rule_is : n < rule_numbers → p ≡ k → get_or ws (terms_at + record_words * k - 1) 0 ≡ depth
          → {w : ℕ} → w ≡ term_words → {b : Bool} → TermDecided (take w (drop (terms_at + record_words * k) ws)) way depth b → RuleDecided ws way k depth b
      rule_is l f s ew d = record {
        yes = λ q ks row kept small deep whole. record {
          low = subst (λ (z : ℕ). z < rule_numbers) is l;
          found = ap (view ws).place (sym is) ∙ sym e ∙ f;
          size = sym (size_is ws k) ∙ s;
          term = subst (λ (z : ℕ). TermOf (take z (drop (terms_at + record_words * k) ws)) way depth) ew (d.yes q ks row kept small deep whole);
        };
        no = λ q r. d.no q (subst (λ (z : ℕ). TermOf (take z (drop (terms_at + record_words * k) ws)) way depth) (sym ew) r.term);
      }
