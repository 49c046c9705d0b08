-- Texts put on a page one after the other, and where a loop stands that puts them there.
-- Assumes nothing.
use mathlib.Core.Path.{◌≡◌, refl, ◌∙◌, ap}
use Prim.Native.Nat.{ℕ, ◌+◌, ◌-◌, ◌≤◌}
use native.Mathlib.Omega.{arith}
use mathlib.Core.List.{List, [], ◌++◌}
use lib.ListN.{length, take, drop, length-drop}
use lib.Seq.{length-sets, length-take-le}
use borrow.Rule.Slice.Mut.{set_vals}
use borrow.Rule.Slice.PartMut.{put_mid}
use Rattle.lent.specs.Room.{Wrote}
use Rattle.lent.proofs.Wrote.{wrote-both, copied, Left, left-last, left-room, left-more}
use Rattle.report.specs.Page.{HasRoom, Put}
use Rattle.report.specs.declared.page.Page.{Page}

pub wrote_kept : (given before : List ℕ) (at r : ℕ) (after : List ℕ) → Wrote given before at r after
    → length after ≡ length before
wrote_kept given before at r after w = ap length w.bytes ∙ length-sets before at given

-- one text, and then another
pub put_both : {a b : List ℕ} {p q r : Page} → Put a p q → Put b q r → Put (a ++ b) p r
put_both x y = record { wrote = wrote-both x.wrote y.wrote; kept = y.kept ∙ x.kept; same = y.same ∙ x.same }

-- A loop that puts texts on a page: what is left of the text, put on the page as it is, gives the page as it will be.
pub record Going (all : List ℕ) (before : Page) (rest : List ℕ) (now : Page) : Type 0 where
  pub left : Left all before.out.now before.at rest now.out.now now.at
  pub same : now.out.ghost_name ≡ before.out.ghost_name

pub going_last : {all : List ℕ} {p q : Page} → q.at ≤ length p.out.now → Going all p [] q → Put all p q
going_last room g = record { wrote = left-last room g.left; kept = g.left.kept; same = g.same }

module _ {all whole : List ℕ} {p q : Page} (a rest : List ℕ) (g : Going all p whole q) (e : whole ≡ a ++ rest) where
  pub going_room : HasRoom (length all) p → HasRoom (length a) q
  going_room h = left-room a rest g.left e h

  pub going_more : {r : Page} → Put a q r → Going all p rest r
  going_more v = record { left = left-more a rest g.left e v.wrote; same = v.same ∙ g.same }

-- a text written over a part of a page as long as it is
module _ (p : Page) (n : ℕ) (room : HasRoom n p) where
  pub part_length : length (take (p.at + n - p.at) (drop p.at p.out.now)) ≡ n
  part_length =
      length-take-le (p.at + n - p.at) (drop p.at p.out.now) (omega (arith, length-drop p.at p.out.now)) ∙ omega arith

  pub put_part : (given part : List ℕ) → length given ≡ n → part ≡ given → Put given p (record {
    out = set_vals (put_mid p.at (p.at + n - p.at) p.out.now part) p.out;
    at = p.at + n;
  })
  put_part given part l e =
      let enough : p.at + length given ≤ length p.out.now = omega arith in
      let w = rw l at (copied given p.out.now part p.at enough e) in
      record { wrote = w; kept = wrote_kept given p.out.now p.at (p.at + n) _ w; same = refl }
