-- Columns, one after the other.
-- Assumes nothing.
use mathlib.Core.Path.{◌≡◌, refl, ap, ◌∙◌, subst}
use Prim.Native.Nat.{ℕ}
use mathlib.Core.List.{List, [], ◌∷◌, ◌++◌, append_assoc}
use Rattle.report.specs.Page.{Put}
use Rattle.report.specs.declared.page.Page.{Page}
use Rattle.report.proofs.Pages.{put_both}
use Rattle.report.specs.Frames.{columns}

columns-append : (a b : List (List ℕ)) → columns a ++ columns b ≡ columns (a ++ b)
columns-append [] b = refl
columns-append (x ∷ a) b =
    append_assoc x (32 ∷ columns a) (columns b) ∙ ap (λ (l : List ℕ). x ++ (32 ∷ l)) (columns-append a b)

-- some columns, and then others
pub put-columns : (a b : List (List ℕ)) {p q r : Page} → Put (columns a) p q → Put (columns b) q r
    → Put (columns (a ++ b)) p r
put-columns a b {p} {q} {r} first second =
    subst (λ (text : List ℕ). Put text p r) (columns-append a b) (put_both first second)
