-- Each promise leaves one answer: what is told says which answer it was. (A flag, an address, an extent and a name are
-- promised as they are.)
-- Assumes nothing.
use mathlib.Core.Path.{◌≡◌, refl, sym, ap, ◌∙◌}
use Prim.Native.Nat.{ℕ}
use mathlib.Core.Bool.{Bool, true, false}
use Rattle.std.specs.Prelude.{Result, Ok, Err, Option as Maybe, Some, None}
use Rattle.lent.specs.Paper.{Told, value, nothing, refused, number, told}
use Rattle.lent.specs.declared.refusal.Refusal.{Refusal}
use Rattle.lent.specs.declared.refusal.Refusal.TheVariants.{Length, Count, Order}
use Rattle.lent.proofs.Answers.{refusal}
use Rattle.lent.proofs.Determined.{one_number, one_told}
use Rattle.pe.specs.Flags.{told_alignment}
use Rattle.pe.specs.Header.{told_given}
use Rattle.pe.specs.declared.header.ImageSectionHeader.{ImageSectionHeader}

abbrev given_back : Told ImageSectionHeader → Result Bool Refusal
given_back (value h) = Ok true
given_back nothing = Ok false
given_back (refused n) = Err (refusal n)

given-back : (g : Result Bool Refusal) (h : ImageSectionHeader) → given_back (told_given g h) ≡ g
given-back (Ok true) h = refl
given-back (Ok false) h = refl
given-back (Err Length) h = refl
given-back (Err Count) h = refl
given-back (Err Order) h = refl

-- whether there is a header, whatever stands beside it
pub one-given : (g q : Result Bool Refusal) (h k : ImageSectionHeader) → told_given g h ≡ told_given q k → g ≡ q
one-given g q h k e = sym (given-back g h) ∙ ap given_back e ∙ given-back q k

-- the header
pub one-headed : (r q : Result (Maybe ImageSectionHeader) Refusal) (t : Told ImageSectionHeader) → told number r ≡ t
    → told number q ≡ t → r ≡ q
one-headed r q t a b = one_told number one_number r q (a ∙ sym b)

pub one-alignment : (t : Told ℕ) (r q : Maybe ℕ) → told_alignment r ≡ t → told_alignment q ≡ t → r ≡ q
one-alignment t (Some m) (Some n) a b = let e : m ≡ n = cc in cc
one-alignment t (Some m) None a b = cc
one-alignment t None (Some n) a b = cc
one-alignment t None None a b = refl
