-- The text of a window: its length, and its lines from the pairs that the window's call writes. Refusal 5 is never met.
-- Assumes nothing.
use mathlib.Core.Path.{◌≡◌, refl, ap, ◌∙◌}
use Prim.Native.Nat.{ℕ, suc, ◌*◌, ◌/◌, ◌≤◌, ◌<◌}
use native.Mathlib.Omega.{arith}
use mathlib.Core.Bool.{Bool, true, false, cond}
use mathlib.Core.List.{List, [], ◌∷◌, ◌++◌}
use mathlib.Core.Option.{Option, none, some}
use lib.ListN.{length, drop, get_or, take, length-append, replicate, length-replicate}
use lib.Seq.{drop-cons, take_at, length-take-le}
use lib.Dec.{leb}
use Rattle.lent.specs.Room.{Written, counted, refused_for, room_for, unless_fault}
use Rattle.lent.specs.Words.{put, ascii}
use borrow.Author.Tests.{le-leb}
use Rattle.lent.proofs.Place.{length-listed}
use Rattle.omap.specs.Records.{entry_at, records}
use Rattle.omap.specs.declared.lookups.Entry.{Entry}
use Rattle.omap.specs.Window.{Piece, next_of, piece_of, pieces, window_pieces}
use Rattle.omap.specs.Output.{beside_start, flat, window_fault}
use Rattle.omap.specs.Output.{told_windowed, window_spec, window_out}
use Rattle.omap.specs.Refusals.{window_number}
use Rattle.omap.specs.declared.windows.WindowRefusal.{WindowRefusal}
use Rattle.omap.specs.declared.windows.WindowRefusal.TheVariants as refusal
use Rattle.std.specs.Prelude.{Err}
use Rattle.omap.proofs.Outputs.{length-flat}
use Rattle.report.specs.Text.{digits, lines, numbered, refused_text}
use Rattle.report.specs.Window.{pair_line, piece_line, pair_lines, window_printed, table_text}
use Rattle.report.proofs.Writing.{length_digits, number_small, few_places}

pub length-pair : (x y : ℕ) → length (pair_line x y) ≡ 18
length-pair x y =
    length-append (digits 16 8 x) (32 ∷ (digits 16 8 y ++ (10 ∷ [])))
    ∙ omega (arith, length_digits 16 8 x, length-append (digits 16 8 y) (10 ∷ []), length_digits 16 8 y)

-- the lines of the pairs are those of the pieces
pub pairs_of : (l : List Piece) → pair_lines (flat l) ≡ lines piece_line l
unfolding pair_lines flat lines
pairs_of [] = refl
pairs_of (p ∷ l) = ap (λ (t : List ℕ). piece_line p ++ t) (pairs_of l)

pub length-lines : (l : List Piece) → length (lines piece_line l) ≡ 18 * length l
unfolding lines
length-lines [] = refl
length-lines (p ∷ l) =
    length-append (piece_line p) (lines piece_line l) ∙ omega (arith, length-pair p.to (beside_start p), length-lines l)

pub length_pairs : (l : List ℕ) → length (pair_lines l) ≡ 18 * (length l / 2)
unfolding pair_lines
length_pairs [] = refl
length_pairs (x ∷ []) = refl
length_pairs (x ∷ (y ∷ l)) =
    length-append (pair_line x y) (pair_lines l) ∙ omega (arith, length-pair x y, length_pairs l)

pub taken-pairs : (l : List ℕ) (n : ℕ) → 2 * n ≤ length l → length (pair_lines (take (2 * n) l)) ≡ 18 * n
taken-pairs l n h = length_pairs (take (2 * n) l) ∙ omega (arith, length-take-le (2 * n) l h)

-- a pair before others
pub pair-first : (pair rest : List ℕ) → length pair ≡ 2
    → pair_lines (pair ++ rest) ≡ pair_line (get_or pair 0 0) (get_or pair 1 0) ++ pair_lines rest
unfolding pair_lines
pair-first [] rest e = absurd (omega arith)
pair-first (x ∷ []) rest e = absurd (omega arith)
pair-first (x ∷ (y ∷ [])) rest e = refl
pair-first (x ∷ (y ∷ (z ∷ l))) rest e = absurd (omega arith)

-- what is left after the last pair has no line
pub pairs-none : (l : List ℕ) → length l < 2 → pair_lines l ≡ []
unfolding pair_lines
pairs-none [] h = refl
pairs-none (x ∷ []) h = refl
pairs-none (x ∷ (y ∷ l)) h = absurd (omega arith)

-- a record has at most one piece
put-few : (o : Option Piece) (l : List Piece) → length (put o l) ≤ suc (length l)
unfolding put
put-few none l = omega arith
put-few (some p) l = omega arith

pub pieces-few : (a b : ℕ) (l : List Entry) → length (pieces a b l) ≤ length l
unfolding pieces
pieces-few a b [] = omega arith
pieces-few a b (x ∷ l) = omega (arith, pieces-few a b l, put-few (piece_of a b x (next_of l)) (pieces a b l))

count-fault : (o : Option ℕ) (fits : Bool) (m n : ℕ)
    → counted n ≡ unless_fault o (cond fits (counted m) (refused_for 5 m)) → n ≡ m
count-fault none true m n e = cc
count-fault none false m n e = cc
count-fault (some k) fits m n e = cc

never-for : (o : Option ℕ) (n k : ℕ) → unless_fault o (counted n) ≡ refused_for 5 k → ⊥
never-for none n k e = let z : ◌≡◌ {A = ℕ} 0 1 = cc in omega arith
never-for (some m) n k e = let z : ◌≡◌ {A = ℕ} 0 1 = cc in omega arith

module _ (s : List ℕ) (a b : ℕ) where
  -- no more pieces than records
  pub few : length (window_pieces true s a b) ≤ length s / 8
  unfolding records
  few = omega (arith, pieces-few a b (records s), length-listed (entry_at s) 0 (length s / 8))

  pub counted-all : (room n : ℕ) → counted n ≡ window_spec true s a b room → n ≡ length (window_pieces true s a b)
  unfolding window_spec room_for
  counted-all room n e =
      let l = window_pieces true s a b in
      count-fault (window_fault true s a b) (leb (length l) room) (length l) n e

  module _ (room : ℕ) (enough : length s / 8 ≤ room) where
    -- with room for as many entries as there are records, 5 is never met
    pub never-5 : window_spec true s a b room ≡ window_spec true s a b (length (window_pieces true s a b))
    unfolding window_spec room_for
    never-5 =
        let l = window_pieces true s a b in
        rw (le-leb (length l) room (omega (arith, few)), le-leb (length l) (length l) (omega arith))

    pub not_short : (k : ℕ) → window_spec true s a b room ≡ refused_for 5 k → ⊥
    unfolding window_spec room_for
    not_short k e =
        let l = window_pieces true s a b in
        never-for (window_fault true s a b) (length l) k (rw (le-leb (length l) room (omega (arith, few))) at e)

    -- so the text follows from the answer with that room
    pub text-is : (w : Written) → w ≡ window_spec true s a b room
        → window_printed w (window_pieces true s a b) ≡ table_text a b s
    unfolding table_text
    text-is w e = ap (λ (v : Written). window_printed v (window_pieces true s a b)) (e ∙ never-5)

  -- where the pieces are counted, they stand at the front of the output
  pub written : (out : List ℕ) (n : ℕ) → counted n ≡ window_spec true s a b (length out / 2)
      → take (2 * n) (window_out true s a b out) ≡ flat (window_pieces true s a b)
  unfolding window_out
  written out n e =
      let l = window_pieces true s a b in
      let q : length (flat l) ≡ 2 * n = omega (arith, length-flat l, counted-all (length out / 2) n e) in
      rw (← e) (take_at (flat l) (drop (length (flat l)) out) (2 * n) q)

  -- the text of the pairs that the call wrote, and of their number
  pub pieces-text : (out last : List ℕ) (n : ℕ) → length s / 8 ≤ length out / 2
      → counted n ≡ window_spec true s a b (length out / 2) → last ≡ window_out true s a b out
      → pair_lines (take (2 * n) last) ++ numbered (ascii "pieces ") n ≡ table_text a b s
  pieces-text out last n room e w =
      let l = window_pieces true s a b in
      let f : take (2 * n) last ≡ flat l = ap (λ (x : List ℕ). take (2 * n) x) w ∙ written out n e in
      rw (f, pairs_of l) (text-is (length out / 2) room (counted n) e)

-- a refusal's text
pub refused-window : (why : WindowRefusal) (l : List Piece)
    → window_printed (told_windowed (Err why)) l ≡ refused_text (window_number why)
refused-window (refusal.Table why) l = refl
refused-window refusal.TooLarge l = refl
refused-window (refusal.Short n) l = refl

pub window_number_small : (why : WindowRefusal) → window_number why < 10
window_number_small (refusal.Table why) = number_small why
window_number_small refusal.TooLarge = omega arith
window_number_small (refusal.Short n) = omega arith

-- the call's room, for 8,192 pairs, is enough for a table that an input has
abbrev pub zeros : List ℕ
zeros = replicate 16384 0

pub enough : (s : List ℕ) → length s ≤ 65528 → length s / 8 ≤ length zeros / 2
enough s h = omega (arith, length-replicate {A = ℕ} 16384 0)

pub few_pieces : (s : List ℕ) (a b n : ℕ) → length s ≤ 65528 → counted n ≡ window_spec true s a b (length zeros / 2)
    → n ≤ 8191
few_pieces s a b n h e = omega (arith, few s a b, counted-all s a b (length zeros / 2) n e)

pub ruleset window_fits = (few_pieces, taken-pairs, few_places, length-take-le)
