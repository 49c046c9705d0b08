-- Parts laid out one after the other: where they lie, and what is read there.
-- Assumes nothing.
use mathlib.Core.Path.{◌≡◌, refl, sym, ap, ◌∙◌}
use Prim.Native.Nat.{ℕ, ◌+◌, ◌-◌, ◌≤◌}
use native.Mathlib.Nat.{add-zero}
use native.Mathlib.Omega.{arith}
use mathlib.Core.Bool.{true}
use mathlib.Core.List.{List, [], ◌∷◌, ◌++◌, map, append_assoc}
use mathlib.Core.Option.{Option, none, some}
use lib.ListN.{length, take, drop, length-append, length-drop}
use lib.Seq.{take-append_seam, drop-append_seam, length-take-le, take-add, drop-drop}
use lib.Dec.{eqb}
use borrow.Author.Tests.{eq-eqb, eqb-true, le-leb}
use Rattle.lent.proofs.Logic.{and_left, and_right}
use Rattle.std.specs.Prelude.{Option as Maybe, Some, None}
use Rattle.bundle.specs.declared.Span.{Span}
use Rattle.bundle.specs.Layout.{joined, spans_from, span}
use Rattle.bundle.specs.Reading.{touching, bytes_of, part_in}

-- parts that are laid out from place p on touch each other
pub laid-touch : (p : ℕ) (l : List (Option (List ℕ))) → touching p (p + length (joined l)) (spans_from p l) ≡ true
unfolding touching joined spans_from
laid-touch p [] = eq-eqb p (p + 0) (omega arith)
laid-touch p (none ∷ l) = rw (add-zero p) (laid-touch p l)
laid-touch p (some part ∷ l) =
    let e : p + length (part ++ joined l) ≡ p + length part + length (joined l) =
    omega (arith, length-append part (joined l)) in
    rw (eq-eqb p p refl, e) (laid-touch (p + length part) l)

-- the part that lies between others
between : (before part after : List ℕ)
    → part_in (before ++ (part ++ after)) (span (length before) (length part)) ≡ some part
unfolding part_in bytes_of
between before part after =
    let n : length before + length part ≤ length (before ++ (part ++ after)) =
    omega (arith, length-append before (part ++ after), length-append part after) in
    rw (
      le-leb (length before + length part) (length (before ++ (part ++ after))) n,
      drop-append_seam before (part ++ after),
      take-append_seam part after,
    )

-- parts that are laid out after other bytes are read where they lie
pub laid-read : (before : List ℕ) (l : List (Option (List ℕ))) (after : List ℕ)
    → map (part_in (before ++ (joined l ++ after))) (spans_from (length before) l) ≡ l
unfolding joined spans_from part_in
laid-read before [] after = refl
laid-read before (none ∷ l) after =
    rw (add-zero (length before)) (ap (λ (r : List (Option (List ℕ))). none ∷ r) (laid-read before l after))
laid-read before (some part ∷ l) after =
    let behind : List ℕ = joined l ++ after in
    let spans : List (Maybe Span) = spans_from (length before + length part) l in
    let here : before ++ ((part ++ joined l) ++ after) ≡ before ++ (part ++ behind) =
    ap (λ (r : List ℕ). before ++ r) (append_assoc part (joined l) after) in
    let there : before ++ (part ++ behind) ≡ before ++ part ++ behind = sym (append_assoc before part behind) in
    let rest : map (part_in (before ++ (part ++ behind))) spans ≡ l =
    rw (there, ← (length-append before part)) (laid-read (before ++ part) l after) in
    ap (λ (s : List ℕ). map (part_in s) (span (length before) (length part) ∷ spans)) here
    ∙ ap (λ (x : Option (List ℕ)). x ∷ map (part_in (before ++ (part ++ behind))) spans) (between before part behind)
    ∙ ap (λ (r : List (Option (List ℕ))). some part ∷ r) rest

-- spans that touch each other up to place e: their parts are what stands from p to e, and lie where the spans say
pub touch-laid : (s : List ℕ) (e : ℕ) → e ≤ length s → (l : List (Maybe Span)) (p : ℕ) → touching p e l ≡ true
    → (p ≤ e) × ((spans_from p (map (part_in s) l) ≡ l) × (joined (map (part_in s) l) ≡ take (e - p) (drop p s)))
unfolding touching spans_from joined part_in bytes_of
touch-laid s e h [] p t =
    let q : p ≡ e = eqb-true p e t in
    let z : e - p ≡ 0 = omega arith in
    (omega arith, (refl, rw z))
touch-laid s e h (None ∷ l) p t =
    let r = touch-laid s e h l p t in
    (r.0, (rw (add-zero p) (ap (λ (k : List (Maybe Span)). None ∷ k) r.1.0), r.1.1))
touch-laid s e h (Some x ∷ l) p t =
    let q : x.start ≡ p = eqb-true x.start p (and_left (eqb x.start p) (touching (p + x.length) e l) t) in
    let r = touch-laid s e h l (p + x.length) (and_right (eqb x.start p) (touching (p + x.length) e l) t) in
    let within : p + x.length ≤ length s = omega (arith, r.0) in
    let inside : x.length ≤ length (drop p s) = omega (arith, length-drop p s) in
    let long : length (take x.length (drop p s)) ≡ x.length = length-take-le x.length (drop p s) inside in
    let split : e - p ≡ x.length + (e - (p + x.length)) = omega (arith, r.0) in
    let both : take (x.length + (e - (p + x.length))) (drop p s)
    ≡ take x.length (drop p s) ++ take (e - (p + x.length)) (drop (p + x.length) s) =
    rw (← (drop-drop x.length p s)) (take-add x.length (e - (p + x.length)) (drop p s)) in (
      omega (arith, r.0),
      rw (q, le-leb (p + x.length) (length s) within, long) (
        ap (λ (k : List (Maybe Span)). span p x.length ∷ k) r.1.0,
        rw (split) (ap (λ (k : List ℕ). take x.length (drop p s) ++ k) r.1.1 ∙ sym both),
      ),
    )
