-- The writer: the bundle of six lent parts.
use Rattle.std.specs.Prelude.{ℕ, Bool, cond, List, length, Result, Ok, Err}
use Rattle.std.specs.Prelude.{Option as Maybe, Some, None}
use Rattle.std.specs.Borrow.{Bor}
use Rattle.std.proofs.Math.Option.{Option, none, some}
use Rattle.lent.specs.Room.{Written, counted, refused_as, refused_for, room_for, unless_fault, out_after}
use Rattle.bundle.specs.declared.Parts.{Parts as Six}
use Rattle.bundle.specs.declared.writer.WriteRefusal.{WriteRefusal}
use Rattle.bundle.specs.declared.writer.WriteRefusal.TheVariants.{TooLarge, Short}
use Rattle.bundle.specs.Layout.{Parts, bundle_of}
use Rattle.bundle.specs.Reading.{length_fault}

-- a part behind its mark: marked absent, whatever bytes are lent with it do not count
abbrev pub part_of : Bool → List ℕ → Option (List ℕ)
part_of present s = cond present (some s) none

abbrev pub lent_parts : Bool → List ℕ → Bool → List ℕ → Bool → List ℕ → Bool → List ℕ → Bool → List ℕ → Bool → List ℕ
    → Parts
lent_parts a r b s c t d u e v f w = record {
  original_sections = part_of a r;
  transformed_sections = part_of b s;
  to_original = part_of c t;
  to_transformed = part_of d u;
  old_frames = part_of e v;
  new_frames = part_of f w;
}

-- a part as it is lent
abbrev pub part_lent : Maybe (Bor (List ℕ)) → Option (List ℕ)
part_lent None = none
part_lent (Some part) = some part.now

-- the six parts as they are lent
abbrev pub parts_of : Six (Maybe (Bor (List ℕ))) → Parts
parts_of p = record {
  original_sections = part_lent p.original_sections;
  transformed_sections = part_lent p.transformed_sections;
  to_original = part_lent p.to_original;
  to_transformed = part_lent p.to_transformed;
  old_frames = part_lent p.old_frames;
  new_frames = part_lent p.new_frames;
}

-- 4, then 5 with the bytes needed; else the number of bytes written
unfoldable pub write_spec : Parts → ℕ → Written
write_spec p room = unless_fault (length_fault (length (bundle_of p))) (room_for (length (bundle_of p)) room)

-- the bundle at the front of the output, and the rest of it as it was; a refused call writes nothing
unfoldable pub write_out : Parts → List ℕ → List ℕ
write_out p out = out_after (write_spec p (length out)) (bundle_of p) out

-- the number of each refusal
abbrev pub write_number : WriteRefusal → ℕ
write_number TooLarge = 4
write_number (Short n) = 5

abbrev pub told_written : Result ℕ WriteRefusal → Written
told_written (Ok n) = counted n
told_written (Err TooLarge) = refused_as 4
told_written (Err (Short n)) = refused_for 5 n
