-- What the cases look at in a step over frames.
use Rattle.std.specs.Prelude.{ℕ, List, [], ◌∷◌}
use Rattle.gillacorn.specs.declared.frames.FrameStepAnswer.{FrameStepAnswer}

-- the code, the frame's type and start, and the next indexes
abbrev pub brief : FrameStepAnswer → List ℕ
brief s =
    s.code ∷ s.frame.ty ∷ s.frame.code_start ∷ s.cursor.old_index ∷ s.cursor.new_index ∷ []
