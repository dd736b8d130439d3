-- The decimal digits of a number from those of a tenth of it.
use Rattle.std.specs.Prelude.{◌≡◌, refl, List, [], ◌∷◌, ◌++◌, Bool, true, false, ℕ, zero, suc, ◌+◌, ◌/◌, ◌%◌, ◌≤◌, ◌<◌, ltb}
use Rattle.std.proofs.Common.{sym, ap, ◌∙◌, arith, lt-ltb, le-ltb, ltb-false}
use Rattle.std.proofs.lemmas.Fmt.{AppendsLastDigit, decimal_from_appends, length-decimal-le_succ}
use Rattle.deciding.specs.Deciding.{pick}
use Rattle.listing.specs.Listing.{digits, decimal}

-- more fuel changes nothing
same_digits : (f g n : ℕ) → n < f → n < g → digits f n ≡ digits g n
unfolding digits
same_digits zero g n h i = absurd (omega arith)
same_digits (suc f) zero n h i = absurd (omega arith)
same_digits (suc f) (suc g) n h i = ap (λ (l : List ℕ). l ++ ((48 + n % 10) ∷ [])) (front (ltb n 10) refl (λ e. same_digits f g (n / 10) (less f e h) (less g e i)))
  where
    less : (f : ℕ) → 10 ≤ n → n < suc f → n / 10 < f
    less f e h = omega arith

    front : (b : Bool) → ltb n 10 ≡ b → (10 ≤ n → digits f (n / 10) ≡ digits g (n / 10)) → pick b [] (digits f (n / 10)) ≡ pick b [] (digits g (n / 10))
    front true t e = refl
    front false t e = e (ltb-false n 10 t)

pub one_digit : (n : ℕ) → n < 10 → decimal n ≡ (48 + n % 10) ∷ []
unfolding digits
one_digit n h = ap (λ (b : Bool). pick b [] (digits n (n / 10)) ++ ((48 + n % 10) ∷ [])) (lt-ltb n 10 h)

pub more_digits : (n : ℕ) → 10 ≤ n → decimal n ≡ decimal (n / 10) ++ ((48 + n % 10) ∷ [])
unfolding digits
more_digits n h =
    ap (λ (b : Bool). pick b [] (digits n (n / 10)) ++ ((48 + n % 10) ∷ [])) (le-ltb n 10 h)
    ∙ ap (λ (l : List ℕ). l ++ ((48 + n % 10) ∷ [])) (same_digits n (suc (n / 10)) (n / 10) (omega arith) (omega arith))

-- what the library prints of a number of 64 bits
appends : AppendsLastDigit digits
unfolding digits
appends = record {
  one = λ k n h. ap (λ (b : Bool). pick b [] (digits k (n / 10)) ++ ((48 + n % 10) ∷ [])) (lt-ltb n 10 h) ∙ ap (λ (d : ℕ). (48 + d) ∷ []) (let e : n % 10 ≡ n = omega arith in e);
  more = λ k n h. ap (λ (b : Bool). pick b [] (digits k (n / 10)) ++ ((48 + n % 10) ∷ [])) (le-ltb n 10 h);
}

pub printed : (n : ℕ) → n < 18446744073709551616 → Rattle.std.specs.Fmt.decimal n ≡ decimal n
printed n h = sym (decimal_from_appends digits appends (suc n) n h (omega (arith, length-decimal-le_succ n h)))
