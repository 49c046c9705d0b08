-- Each promise leaves one answer, and one output: any two results that it allows are equal.
-- Assumes nothing.
use mathlib.Core.Path.{◌≡◌, refl, sym, ◌∙◌}
use Prim.Native.Nat.{ℕ}
use mathlib.Core.List.{List}
use lib.ListN.{length}
use Rattle.std.specs.Prelude.{Result, Ok, Err}
use Rattle.lent.specs.Paper.{told_value}
use Rattle.lent.proofs.Determined.{one_value}
use Rattle.bundle.specs.Layout.{Parts, Spans}
use Rattle.bundle.specs.Reading.{read_number, read_spec}
use Rattle.bundle.specs.Writing.{told_written, write_spec, write_out}
use Rattle.bundle.specs.declared.reader.ReadRefusal.{ReadRefusal}
use Rattle.bundle.specs.declared.reader.ReadRefusal.TheVariants.{TooLarge, NotABundle, OtherVersion, Layout}
use Rattle.bundle.specs.declared.writer.WriteRefusal.{WriteRefusal}
use Rattle.bundle.specs.declared.writer.WriteRefusal.TheVariants as write

one_read_number : (v w : ReadRefusal) → read_number v ≡ read_number w → v ≡ w
one_read_number TooLarge TooLarge e = refl
one_read_number TooLarge NotABundle e = cc
one_read_number TooLarge OtherVersion e = cc
one_read_number TooLarge Layout e = cc
one_read_number NotABundle TooLarge e = cc
one_read_number NotABundle NotABundle e = refl
one_read_number NotABundle OtherVersion e = cc
one_read_number NotABundle Layout e = cc
one_read_number OtherVersion TooLarge e = cc
one_read_number OtherVersion NotABundle e = cc
one_read_number OtherVersion OtherVersion e = refl
one_read_number OtherVersion Layout e = cc
one_read_number Layout TooLarge e = cc
one_read_number Layout NotABundle e = cc
one_read_number Layout OtherVersion e = cc
one_read_number Layout Layout e = refl

pub one-read : (s : List ℕ) (r q : Result Spans ReadRefusal) → told_value read_number r ≡ read_spec s
    → told_value read_number q ≡ read_spec s → r ≡ q
one-read s r q e f = one_value read_number one_read_number r q (e ∙ sym f)

one_written : (r q : Result ℕ WriteRefusal) → told_written r ≡ told_written q → r ≡ q
one_written (Ok m) (Ok n) e = let s : m ≡ n = cc in cc
one_written (Ok m) (Err write.TooLarge) e = cc
one_written (Ok m) (Err (write.Short n)) e = cc
one_written (Err write.TooLarge) (Ok n) e = cc
one_written (Err write.TooLarge) (Err write.TooLarge) e = refl
one_written (Err write.TooLarge) (Err (write.Short n)) e = cc
one_written (Err (write.Short m)) (Ok n) e = cc
one_written (Err (write.Short m)) (Err write.TooLarge) e = cc
one_written (Err (write.Short m)) (Err (write.Short n)) e = let s : m ≡ n = cc in cc

-- what is answered, and what is left in the output
pub one-write : (p : Parts) (out : List ℕ) (r q : Result ℕ WriteRefusal) (after next : List ℕ)
    → (told_written r ≡ write_spec p (length out)) × (after ≡ write_out p out)
    → (told_written q ≡ write_spec p (length out)) × (next ≡ write_out p out) → (r ≡ q) × (after ≡ next)
one-write p out r q after next e f = (one_written r q (e.0 ∙ sym f.0), e.1 ∙ sym f.1)
