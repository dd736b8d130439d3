-- Where a number's record is, and what it shows.
use Rattle.std.specs.Prelude.{◌≡◌, refl, Some, None, List, ◌++◌, Bool, true, false, ℕ, ◌+◌, ◌-◌, ◌*◌, ◌≤◌, ◌<◌, eqb, ltb, length, get_or, take, drop, replicate}
use Rattle.std.proofs.Common.{sym, ap, ap₂, ◌∙◌, subst, arith, ltb-true, eqb-true, length-take, length-drop, length-append, ext_get_or, get_or-take, get_or-append-add}
use Rattle.std.proofs.Math.Decide.{dec_lt}
use Rattle.std.proofs.lemmas.List.{length-replicate}
use Rattle.std.proofs.lemmas.Option.{none-some, same_Some}
use Rattle.std.proofs.Math.ListN.{get_or-append}
use Rattle.std.specs.Bool.{then_some}
use Rattle.deciding.specs.Deciding.{pick, both, of_both}
use Rattle.layout.specs.Layout.{rules_limit, term_words, record_words, terms_at}
use Rattle.book.specs.Rules.{nothing, rule}
use Rattle.book.specs.Memory.{View, view, taken, number, term, rule_at, held_at, Passing, rules_in}
use Rattle.book.specs.Holding.{term_stands_at, term_size}
use Rattle.book.specs.Promises.{Shows, shown, place_of}
use Rattle.book.specs.Filling.{Zeros, fields_long, zeros_are}
use Rattle.book.specs.Looking.{nodes_low}

-- The rule with the number k is at the place r.
pub record Placed (ws : List ℕ) (k r : ℕ) : Type 0 where
  pub low : r < rules_limit
  pub used : taken (view ws) r ≡ true
  pub has : number (view ws) r ≡ k
  pub rule_is : rules_in ws k ≡ rule (rule_at (view ws) r)

none_then : (b : Bool) (x : ℕ) → then_some b x ≡ None → b ≡ false
none_then false x e = refl
none_then true x e = absurd (none-some x (sym e))

some_then : (b : Bool) (x y : ℕ) → then_some b x ≡ Some y → (b ≡ true) × (x ≡ y)
some_then true x y e = (refl, same_Some x y e)
some_then false x y e = absurd (none-some y e)

module _ (ws : List ℕ) (k : ℕ) where
  pub not_placed : place_of (view ws) k ≡ None → rules_in ws k ≡ nothing
  not_placed e = ap (λ (b : Bool). pick b (rule (rule_at (view ws) ((view ws).place k))) nothing) (none_then (held_at (view ws) k) ((view ws).place k) e)

  pub placed : (r : ℕ) → place_of (view ws) k ≡ Some r → Placed ws k r
  placed r e = record {
    low = subst (λ (z : ℕ). z < rules_limit) h.1 (ltb-true ((view ws).place k) rules_limit a.0);
    used = subst (λ (z : ℕ). taken (view ws) z ≡ true) h.1 b.0;
    has = subst (λ (z : ℕ). number (view ws) z ≡ k) h.1 (eqb-true (number (view ws) ((view ws).place k)) k b.1);
    rule_is = ap₂ (λ (x : Bool) (z : ℕ). pick x (rule (rule_at (view ws) z)) nothing) h.0 h.1;
  }
    where
      h : (held_at (view ws) k ≡ true) × ((view ws).place k ≡ r)
      h = some_then (held_at (view ws) k) ((view ws).place k) r e

      a : (ltb ((view ws).place k) rules_limit ≡ true) × (both (taken (view ws) ((view ws).place k)) (eqb (number (view ws) ((view ws).place k)) k) ≡ true)
      a = of_both (ltb ((view ws).place k) rules_limit) (both (taken (view ws) ((view ws).place k)) (eqb (number (view ws) ((view ws).place k)) k)) h.0

      b : (taken (view ws) ((view ws).place k) ≡ true) × (eqb (number (view ws) ((view ws).place k)) k ≡ true)
      b = of_both (taken (view ws) ((view ws).place k)) (eqb (number (view ws) ((view ws).place k)) k) a.1

-- Its record has at most 32 cells, and zeros behind the term.
module _ (ws : List ℕ) (k r : ℕ) (p : Passing ws) (at : Placed ws k r) where
  pub record_short : (view ws).size r ≤ 32
  record_short = (term_stands_at (view ws) (nodes_low ws p.size) p.right r at.used).short

  pub record_clean : Zeros ((view ws).cells r) ((view ws).size r)
  record_clean = (p.right.records r at.used).clean

-- ---- showing

pub shows_nothing : (ws : List ℕ) (k : ℕ) → rules_in ws k ≡ nothing → Shows ws k None
shows_nothing ws k e = sym (ap shown e)

pub shows_rule : (ws : List ℕ) (k r size : ℕ) (cells : List ℕ) → Passing ws → Placed ws k r → size ≡ (view ws).size r → cells ≡ (view ws).cells r
    → Shows ws k (Some (record { size = size; cells = cells }))
shows_rule ws k r size cells p at es ec =
    ap₂ (λ (n : ℕ) (l : List ℕ). Some (record { size = n; cells = l })) (es ∙ sym long) (ec ∙ whole) ∙ sym (ap shown at.rule_is)
  where
    v : View
    v = view ws

    long : length (term (view ws) r) ≡ (view ws).size r
    long = term_size (view ws) (nodes_low ws p.size) p.right r at.used

    wide : length ((view ws).cells r) ≡ 32
    wide = fields_long (take term_words (drop (terms_at + record_words * r) ws))
        ∙ omega (arith, length-take term_words (drop (terms_at + record_words * r) ws), length-drop (terms_at + record_words * r) ws, p.size, at.low)

    short : (view ws).size r ≤ 32
    short = record_short ws k r p at

    whole : (view ws).cells r ≡ term (view ws) r ++ replicate (32 - length (term (view ws) r)) 0
    whole = ext_get_or 0 ((view ws).cells r) (term (view ws) r ++ replicate (32 - length (term (view ws) r)) 0)
        (wide ∙ omega (
          arith,
          length-append (term (view ws) r) (replicate (32 - length (term (view ws) r)) 0),
          length-replicate {A = ℕ}
              (32 - length (term (view ws) r)) 0,
          long,
          short,
        ))
        (λ i h. same i (dec_lt i ((view ws).size r)))
      where
        same : (i : ℕ) → Dec (i < (view ws).size r) → get_or ((view ws).cells r) i 0 ≡ get_or (term (view ws) r ++ replicate (32 - length (term (view ws) r)) 0) i 0
        same i (yes l) = sym (get_or-append (term (view ws) r) (replicate (32 - length (term (view ws) r)) 0) 0 i (omega (arith, long))
            ∙ get_or-take ((view ws).size r) ((view ws).cells r) i 0 l)
        same i (no l) =
            let e : i ≡ length (term (view ws) r) + (i - length (term (view ws) r)) = omega (arith, long) in
            record_clean ws k r p at i (omega arith)
            ∙ sym (ap (λ (z : ℕ). get_or (term (view ws) r ++ replicate (32 - length (term (view ws) r)) 0) z 0) e
            ∙ get_or-append-add (term (view ws) r) (replicate (32 - length (term (view ws) r)) 0) (i - length (term (view ws) r)) 0
            ∙ zeros_are (32 - length (term (view ws) r)) (i - length (term (view ws) r)))
