-- The yes/no kind.
use Rattle.std.specs.Prelude.{ℕ, suc, zero, ◌<◌, ◌≡◌, refl}
use Rattle.mark.specs.Limits.{most_bytes}
use Rattle.mark.specs.Marks.{Kind, Laws}
use Rattle.mark.specs.declared.yes_no.YesNo.TheVariants.{Nothing, Yes}
use Rattle.mark.specs.declared.yes_no.YesNo.{YesNo}
use Rattle.std.proofs.Common.{arith}

-- yes if either is
abbrev pub either : YesNo → YesNo → YesNo
either Yes y = Yes
either Nothing y = y

-- yes at place 0 alone
abbrev pub yes_seed : ℕ → YesNo
yes_seed zero = Yes
yes_seed (suc p) = Nothing

abbrev pub yes_code : YesNo → ℕ
yes_code Nothing = 0
yes_code Yes = 1

either_assoc : (x y z : YesNo) → either (either x y) z ≡ either x (either y z)
either_assoc Yes y z = refl
either_assoc Nothing y z = refl

either_comm : (x y : YesNo) → either x y ≡ either y x
either_comm Yes Yes = refl
either_comm Yes Nothing = refl
either_comm Nothing Yes = refl
either_comm Nothing Nothing = refl

either_idem : (x : YesNo) → either x x ≡ x
either_idem Yes = refl
either_idem Nothing = refl

pub either_laws : Laws either Nothing
either_laws = record { assoc = either_assoc; comm = either_comm; idem = either_idem; unit = λ x. refl }

pub yes_seeds_end : (p : ℕ) → most_bytes < p → yes_seed p ≡ Nothing
yes_seeds_end zero h = let z : ⊥ = omega arith in absurd z
yes_seeds_end (suc p) h = refl

pub yes_codes_differ : (x y : YesNo) → yes_code x ≡ yes_code y → x ≡ y
yes_codes_differ Yes Yes e = refl
yes_codes_differ Yes Nothing e = let z : ⊥ = omega arith in absurd z
yes_codes_differ Nothing Yes e = let z : ⊥ = omega arith in absurd z
yes_codes_differ Nothing Nothing e = refl

abbrev pub yes_no : Kind YesNo
yes_no = record { nothing = Nothing; join = either; seed = yes_seed; code = yes_code; laws = either_laws; seeds_end = yes_seeds_end; codes_differ = yes_codes_differ }
