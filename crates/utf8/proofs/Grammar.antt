-- `utf8` is RFC 3629's grammar: a text passes exactly where it is a row of characters, each by an alternative of the
-- table.
-- Assumes nothing.
use mathlib.Core.Path.{◌≡◌, refl, sym, ap, ◌∙◌}
use mathlib.Core.Logic.{inl, inr, ⊎_elim}
use Prim.Native.Nat.{ℕ, ◌+◌, ◌≤◌, ◌<◌}
use native.Mathlib.Omega.{arith}
use mathlib.Core.Bool.{true, false}
use mathlib.Core.List.{List, [], ◌∷◌, ◌++◌}
use mathlib.Core.Option.{Option, none, some}
use lib.Dec.{leb}
use borrow.Author.Tests.{leb-true}
use Rattle.std.proofs.lemmas.Bool.{cases_Bool}
use Rattle.lent.proofs.Logic.{and_left, and_right}
use Rattle.utf8.specs.Utf8.{Range, ◌to◌, holds, after_lead, next, completes, utf8, UTF8-char}
use Rattle.utf8.specs.Grammar.{Among, Fit, done, byte, Text, end, char}
use Rattle.utf8.proofs.Leads.{same, passes, led}
use Rattle.utf8.proofs.Reading.{never}

contrary : {A : Type 0} → false ≡ true → A
contrary z = let y : ◌≡◌ {A = ℕ} 0 1 = cc in absurd (omega arith)

-- a byte that leads lies in the first range of an alternative, and what is due is the rest of it
record Leads (forms : List (List Range)) (b : ℕ) (rs : List Range) : Type 0 where
  pub range : Range
  pub among : Among (range ∷ rs) forms
  pub inside : holds range b ≡ true

leads : (forms : List (List Range)) (b : ℕ) (rs : List Range) → after_lead forms b ≡ some rs → Leads forms b rs
unfolding after_lead
leads [] b rs e = let z : ◌≡◌ {A = ℕ} 0 1 = cc in absurd (omega arith)
leads ([] ∷ forms) b rs e =
    let k = leads forms b rs e in
    record { range = k.range; among = inr k.among; inside = k.inside }
leads ((r ∷ qs) ∷ forms) b rs e =
    ⊎_elim
    (λ (h : holds r b ≡ true).
    let q : some qs ≡ some rs = rw h at e in
    let s : qs ≡ rs = cc in
    record { range = r; among = inl (ap (λ (x : List Range). r ∷ x) (sym s)); inside = h })
    (λ (h : holds r b ≡ false).
    let k = leads forms b rs (rw h at e) in
    record { range = k.range; among = inr k.among; inside = k.inside })
    (cases_Bool (holds r b))

-- bytes that complete what is begun: those that it asks for, and a text
record Split (rs : List Range) (l : List ℕ) : Type 0 where
  pub front : List ℕ
  pub back : List ℕ
  pub whole : l ≡ front ++ back
  pub fit : Fit rs front
  pub text : Text back

as-text : (l : List ℕ) → Split [] l → Text l
as-text l k = go k.front k.whole k.fit
  where
    go : (c : List ℕ) → l ≡ c ++ k.back → Fit [] c → Text l
    go [] w done = rw w k.text
    go (_ ∷ _) w f = elim f [ ]

split : (rs : List Range) (l : List ℕ) → completes (some rs) l ≡ true → Split rs l
unfolding completes
split [] [] e = record { front = []; back = []; whole = refl; fit = done; text = end }
split (r ∷ rs) [] e = contrary e
split [] (b ∷ l) e =
    from (λ (rs : List Range) (f : completes (some rs) l ≡ true). split rs l f) (after_lead UTF8-char b) refl
  where
    from : ((rs : List Range) → completes (some rs) l ≡ true → Split rs l) → (o : Option (List Range))
        → after_lead UTF8-char b ≡ o → Split [] (b ∷ l)
    from rest none q = contrary (sym (never l) ∙ (rw q at e))
    from rest (some rs) q =
        let k = rest rs (rw q at e) in
        let h = leads UTF8-char b rs q in
        let t : Text (b ∷ l) = rw k.whole (char h.among (byte h.inside k.fit) k.text) in
        record { front = []; back = b ∷ l; whole = refl; fit = done; text = t }
split (r ∷ rs) (b ∷ l) e =
    ⊎_elim
    (λ (h : holds r b ≡ true).
    let k = split rs l (rw h at e) in
    record {
      front = b ∷ k.front;
      back = k.back;
      whole = ap (λ (x : List ℕ). b ∷ x) k.whole;
      fit = byte h k.fit;
      text = k.text;
    })
    (λ (h : holds r b ≡ false). contrary (sym (never l) ∙ (rw h at e)))
    (cases_Bool (holds r b))

-- what passes is a text of the grammar
pub utf8-text : (l : List ℕ) → utf8 l ≡ true → Text l
utf8-text l e = as-text l (split [] l e)

-- what is asked for is met by bytes that fit, and a text goes on after them
met : (rs : List Range) (c l : List ℕ) → Fit rs c → completes (some rs) (c ++ l) ≡ utf8 l
unfolding completes
met [] [] l done = refl
met [] (b ∷ c) l f = elim f [ ]
met (r ∷ rs) [] l f = elim f [ ]
met (r ∷ rs) (b ∷ c) l (byte h f) =
    let n : next (some (r ∷ rs)) b ≡ some rs = rw h in
    ap (λ (o : Option (List Range)). completes o (c ++ l)) n ∙ met rs c l f

-- no byte leads two alternatives: what is due after it is what its own asks for
module _ (b : ℕ) (r : Range) (rs : List Range) (h : holds r b ≡ true) where
  by-range : (x : Range) (xs : List Range) (n : ℕ)
      → passes (λ (k : ℕ). same (some xs) (after_lead UTF8-char k)) x.low n ≡ true
      → x.high < x.low + n → r ∷ rs ≡ x ∷ xs → some rs ≡ after_lead UTF8-char b
  by-range x xs n t l e =
      let p : r ≡ x = cc in
      let q : rs ≡ xs = cc in
      let k : holds x b ≡ true = rw p at h in
      let low : x.low ≤ b = leb-true x.low b (and_left (leb x.low b) (leb b x.high) k) in
      let high : b ≤ x.high = leb-true b x.high (and_right (leb x.low b) (leb b x.high) k) in
      rw q (led (some xs) x.low n t b low (omega arith))

  alone : Among (r ∷ rs) UTF8-char → some rs ≡ after_lead UTF8-char b
  unfolding after_lead
  alone (inl e) = by-range (0x00 to 0x7F) _ 128 refl (omega arith) e
  alone (inr (inl e)) = by-range (0xC2 to 0xDF) _ 30 refl (omega arith) e
  alone (inr (inr (inl e))) = by-range (0xE0 to 0xE0) _ 1 refl (omega arith) e
  alone (inr (inr (inr (inl e)))) = by-range (0xE1 to 0xEC) _ 12 refl (omega arith) e
  alone (inr (inr (inr (inr (inl e))))) = by-range (0xED to 0xED) _ 1 refl (omega arith) e
  alone (inr (inr (inr (inr (inr (inl e)))))) = by-range (0xEE to 0xEF) _ 2 refl (omega arith) e
  alone (inr (inr (inr (inr (inr (inr (inl e))))))) = by-range (0xF0 to 0xF0) _ 1 refl (omega arith) e
  alone (inr (inr (inr (inr (inr (inr (inr (inl e)))))))) = by-range (0xF1 to 0xF3) _ 3 refl (omega arith) e
  alone (inr (inr (inr (inr (inr (inr (inr (inr (inl e))))))))) = by-range (0xF4 to 0xF4) _ 1 refl (omega arith) e
  alone (inr (inr (inr (inr (inr (inr (inr (inr (inr m))))))))) = absurd m

-- a character of the table is read to its end
utf8-char : (form : List Range) (c l : List ℕ) → Among form UTF8-char → Fit form c → utf8 (c ++ l) ≡ utf8 l
unfolding completes
utf8-char [] [] l m done = refl
utf8-char [] (b ∷ c) l m f = elim f [ ]
utf8-char (r ∷ rs) [] l m f = elim f [ ]
utf8-char (r ∷ rs) (b ∷ c) l m (byte h f) =
    ap (λ (o : Option (List Range)). completes o (c ++ l)) (sym (alone b r rs h m)) ∙ met rs c l f

-- a text of the grammar passes
pub text-utf8 : (l : List ℕ) → Text l → utf8 l ≡ true
unfolding completes
text-utf8 _ end = refl
text-utf8 _ (char {form} {c} {l} m f t) = utf8-char form c l m f ∙ text-utf8 l t
