-- Cases on both sides of the line: names that are taken and refused, and the empty table.
use Rattle.std.specs.Prelude.{◌≡◌, refl, List, [], ◌∷◌, ℕ, ◌-◌, ◌*◌, ◌≤◌, ◌<◌, length, get_or, replicate}
use Rattle.std.proofs.Common.{arith}
use Rattle.std.proofs.lemmas.List.{length-replicate, get_or-replicate}
use Rattle.names.specs.Name.{IsName}
use Rattle.names.specs.Table.{slots_of, Holds}

-- "cave " and " " are refused, and so are no bytes at all.
cave_space : IsName (99 ∷ 97 ∷ 118 ∷ 101 ∷ 32 ∷ []) → ⊥
cave_space n = n.ends refl

one_space : IsName (32 ∷ []) → ⊥
one_space n = n.begins refl

no_bytes : IsName [] → ⊥
no_bytes n = let some = n.some in omega arith

-- The letter x, 1 to 31 times, is a name; 32 times it is none.
xs_name : (n : ℕ) → 1 ≤ n → n ≤ 31 → IsName (replicate n 120)
xs_name n some short =
    let xs : List ℕ = replicate n 120 in
    let size : length xs ≡ n = length-replicate n 120 in
    let x : (i : ℕ) → i < n → get_or xs i 0 ≡ 120 = λ i l. get_or-replicate n i 120 0 l in
    record {
      some = omega arith;
      short = omega arith;
      printed = λ i l. omega (arith, x i (omega arith));
      begins = λ e. omega (arith, x 0 (omega arith));
      ends = λ e. omega (arith, x (length xs - 1) (omega arith));
    }

xs_32 : IsName (replicate 32 120) → ⊥
xs_32 n = let short = n.short in omega (arith, length-replicate {A = ℕ} 32 120)

-- So many slots of zeros hold no name.
empty_table : (slots : ℕ) → 1 ≤ slots → slots ≤ 1024 → Holds (replicate (32 * slots) 0) [] slots
unfolding slots_of
empty_table slots some most =
    record { written = refl; some = omega arith; most = omega arith; named = λ k l. absurd (omega arith); apart = λ j k l m. absurd (omega arith) }
