-- Bytes written one after the other: what calls leave that write them, and where a loop stands that does.
-- Assumes nothing.
use mathlib.Core.Path.{◌≡◌, refl, sym, ap, ◌∙◌}
use Prim.Native.Nat.{ℕ, suc, ◌+◌, ◌-◌, ◌≤◌, ◌<◌}
use native.Mathlib.Nat.{zero-add, add-zero}
use native.Mathlib.Numerals.{add-one}
use native.Mathlib.Omega.{arith}
use mathlib.Core.List.{List, [], ◌∷◌, ◌++◌, append_assoc}
use borrow.Rule.Slice.PartMut.{put_mid}
use lib.ListN.{length, take, drop, set, get_or, length-append}
use lib.Seq.{sets, sets-eq, drop-cons, drop-drop, length-sets}
use Rattle.lent.specs.Room.{written_over, Wrote}

-- entries written from the front on
pub front : {A : Type 0} (vs out : List A) → length vs ≤ length out → sets out 0 vs ≡ written_over vs out
front vs out h = sets-eq vs out 0 (omega arith) ∙ ap (λ (k : ℕ). vs ++ drop k out) (zero-add (length vs))

-- some bytes, and then others
pub sets-append : (out : List ℕ) (at : ℕ) (vs ws : List ℕ)
    → sets out at (vs ++ ws) ≡ sets (sets out at vs) (at + length vs) ws
sets-append out at [] ws = rw (add-zero at)
sets-append out at (v ∷ vs) ws =
    let e : suc at + length vs ≡ at + suc (length vs) = omega arith in
    sets-append (set out at v) (suc at) vs ws ∙ ap (λ (k : ℕ). sets (sets (set out at v) (suc at) vs) k ws) e

-- some bytes, and then others, in calls one after the other
pub wrote-both : {a b before middle after : List ℕ} {at r q : ℕ} → Wrote a before at r middle
    → Wrote b middle r q after → Wrote (a ++ b) before at q after
wrote-both {a} {b} {before} {middle} {after} {at} {r} {q} first second = record {
  place = omega (arith, length-append a b);
  bytes = second.bytes ∙ rw (first.bytes, first.place) (sym (sets-append before at a b));
  room = let l = ap length first.bytes ∙ length-sets before at a in
      omega (arith, first.place, second.room, length-append a b);
}

-- A loop that writes bytes: what is left of them, written onto the bytes as they are, gives the bytes as they will be.
pub record Left (all before : List ℕ) (at : ℕ) (rest bytes : List ℕ) (k : ℕ) : Type 0 where
  pub kept : length bytes ≡ length before
  pub places-left : k + length rest ≡ at + length all
  pub as-will-be : sets bytes k rest ≡ sets before at all

pub left-first : (all before : List ℕ) (at : ℕ) → Left all before at all before at
left-first all before at = record { kept = refl; places-left = refl; as-will-be = refl }

pub left-last : {all before bytes : List ℕ} {at k : ℕ} → k ≤ length before → Left all before at [] bytes k
    → Wrote all before at k bytes
left-last {k = k} h w =
    record { place = sym (add-zero k) ∙ w.places-left; bytes = w.as-will-be; room = omega (arith, w.places-left) }

-- the next of the bytes, and what is left after them
module _ {all before whole bytes : List ℕ} {at k : ℕ} (a rest : List ℕ) (w : Left all before at whole bytes k)
    (e : whole ≡ a ++ rest) where
  both-lengths : length whole ≡ length a + length rest
  both-lengths = ap length e ∙ length-append a rest

  pub left-room : at + length all ≤ length before → k + length a ≤ length bytes
  left-room h = omega (arith, both-lengths, w.kept, w.places-left)

  pub left-more : {r : ℕ} {after : List ℕ} → Wrote a bytes k r after → Left all before at rest after r
  left-more v = record {
    kept = ap length v.bytes ∙ length-sets bytes k a ∙ w.kept;
    places-left = omega (arith, both-lengths, v.place, w.places-left);
    as-will-be = rw (v.bytes, v.place)
        (sym (sets-append bytes k a rest) ∙ ap (λ (l : List ℕ). sets bytes k l) (sym e) ∙ w.as-will-be);
  }

-- one byte less to copy
pub byte-less : (word out : List ℕ) (at i : ℕ) → i < length word
    → sets (set out (at + i) (get_or word i 0)) (at + (i + 1)) (drop (i + 1) word) ≡ sets out (at + i) (drop i word)
byte-less word out at i h =
    let e : at + (i + 1) ≡ suc (at + i) = omega arith in
    rw (drop-cons word i 0 h, e, add-one)

-- some bytes copied over a part as long as they are
pub copied : (given before part : List ℕ) (at : ℕ) → at + length given ≤ length before → part ≡ given
    → Wrote given before at (at + length given) (put_mid at (at + length given - at) before part)
copied given before part at room e =
    let n : at + length given - at ≡ length given = omega arith in
    let rest : drop (length given) (drop at before) ≡ drop (at + length given) before = drop-drop (length given) at before in
    let f : put_mid at (at + length given - at) before part ≡ sets before at given
    = rw (e, n, rest) (sym (append_assoc (take at before) given (drop (at + length given) before)) ∙ sym (sets-eq given before at room)) in
    record { place = refl; bytes = f; room = room }
