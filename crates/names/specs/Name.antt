-- What a name is: Reference 10.2. A space is a character, and nothing is trimmed.
use Rattle.std.specs.Prelude.{◌≡◌, List, [], ◌∷◌, Bool, true, false, ℕ, ◌-◌, ◌≤◌, ◌<◌, eqb, leb, ltb, length, get_or}
use Rattle.deciding.specs.Deciding.{pick}

-- 11 doesn't refuse these bytes: 1 to 31 of them, each from 32 to 126, the first and the last no space.
pub record IsName (name : List ℕ) : Type 0 where
  pub some : 1 ≤ length name
  pub short : length name ≤ 31
  pub printed : (i : ℕ) → i < length name → (32 ≤ get_or name i 0) × (get_or name i 0 ≤ 126)
  pub begins : get_or name 0 0 ≡ 32 → ⊥
  pub ends : get_or name (length name - 1) 0 ≡ 32 → ⊥

-- ---- the same, computed

unfoldable pub printed : List ℕ → Bool
printed [] = true
printed (byte ∷ bytes) = pick (leb 32 byte) (pick (leb byte 126) (printed bytes) false) false

abbrev pub passes_as_name : List ℕ → Bool
passes_as_name name =
    pick (ltb 0 (length name))
    (pick (leb (length name) 31)
    (pick (printed name)
    (pick (eqb (get_or name 0 0) 32) false
    (pick (eqb (get_or name (length name - 1) 0) 32) false true)) false) false) false
