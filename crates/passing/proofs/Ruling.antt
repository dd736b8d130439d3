-- A rule that is right for the way is the rule that hangs below the row of the way.
use Rattle.std.specs.Prelude.{Ok}
use mathlib.Core.Path.{◌≡◌, refl, sym, ap, ◌∙◌, subst}
use mathlib.Core.List.{List, [], ◌∷◌, map, reverse}
use Prim.Native.Nat.{ℕ, zero, suc, ◌+◌, ◌%◌, ◌≤◌, ◌<◌}
use native.Mathlib.Omega.{arith}
use lib.ListN.{length, get_or, length-take, length-map, length-reverse}
use lib.Seq.{ext_get_or, get_or-take}
use Rattle.term.specs.Reading.{read_term}
use Rattle.term.specs.Whole.{whole_term}
use Rattle.book.specs.Memory.{view, term, form, blank_number}
use Rattle.recorded.specs.WayCells.{kept_cell}
use Rattle.passing.specs.Wanted.{Hangs}
use Rattle.recorded.specs.Way.{Kept, Low}
use Rattle.recorded.specs.Promises.{RuleAt}

module _ (ws way ks row : List ℕ) (k depth : ℕ) (kept : Kept way ks row) (low : Low row) (deep : length row ≡ depth) (short : depth ≤ 32) where
  cells : List ℕ
  cells = (view ws).cells k

  row_cell : (j : ℕ) → j < depth → blank_number (get_or way (j + 1) 0 % 65536) ≡ get_or (reverse row) j 0
  row_cell j h = kept_cell kept low (omega arith) j (omega arith)

  form_cell : (j : ℕ) → j < (view ws).size k → (view ws).size k ≤ length ((view ws).cells k) → get_or (form (view ws) k) j 0 ≡ blank_number (get_or ((view ws).cells k) j 0)
  form_cell j h l = get_d_map blank_number (term (view ws) k) j (omega (arith, length-take ((view ws).size k) ((view ws).cells k)))
      ∙ ap blank_number (get_or-take ((view ws).size k) ((view ws).cells k) j 0 h)
    where
      get_d_map : (f : ℕ → ℕ) (l : List ℕ) (j : ℕ) → j < length l → get_or (map f l) j 0 ≡ f (get_or l j 0)
      get_d_map f [] j h = absurd (omega arith)
      get_d_map f (x ∷ l) zero h = refl
      get_d_map f (x ∷ l) (suc j) h = get_d_map f l j (omega arith)

  form_length : (view ws).size k ≤ length ((view ws).cells k) → length (form (view ws) k) ≡ (view ws).size k
  form_length l = omega (arith, length-map (term (view ws) k) blank_number, length-take ((view ws).size k) ((view ws).cells k))

  pub rule_hangs : RuleAt ws way k depth → Hangs (view ws) k row
  rule_hangs r = record {
    right = record
        { low = r.low; found = r.found; whole = whole; clean = λ i h. r.term.clean i (subst (λ (z : ℕ). z ≤ i) r.size h) };
    is = is;
  }
    where
      whole : read_term ((view ws).cells k) ≡ Ok ((view ws).size k)
      whole = r.term.whole ∙ ap Ok (sym r.size)

      inside : (view ws).size k ≤ length ((view ws).cells k)
      inside = (whole_term ((view ws).cells k) ((view ws).size k) whole).inside

      is : form (view ws) k ≡ reverse row
      is = ext_get_or 0 (form (view ws) k) (reverse row) (form_length inside ∙ r.size ∙ sym deep ∙ sym (length-reverse row))
          (λ j h. let l : j < (view ws).size k = let q = form_length inside in omega arith in
          let d : j < depth = let q = r.size in omega arith in
          form_cell j l inside ∙ r.term.same j d ∙ row_cell j d)

  pub hangs_rule : Hangs (view ws) k row → RuleAt ws way k depth
  hangs_rule h = record {
    low = h.right.low;
    found = h.right.found;
    size = size;
    term = record {
      whole = h.right.whole ∙ ap Ok size;
      clean = λ i l. h.right.clean i (subst (λ (z : ℕ). z ≤ i) (sym size) l);
      same = λ j l. sym (form_cell j (subst (λ (z : ℕ). j < z) (sym size) l) inside) ∙ ap (λ (z : List ℕ). get_or z j 0) h.is ∙ sym (row_cell j l);
    };
  }
    where
      inside : (view ws).size k ≤ length ((view ws).cells k)
      inside = (whole_term ((view ws).cells k) ((view ws).size k) h.right.whole).inside

      size : (view ws).size k ≡ depth
      size = sym (form_length inside) ∙ ap length h.is ∙ length-reverse row ∙ deep
