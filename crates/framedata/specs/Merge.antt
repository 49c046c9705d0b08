-- The whole iteration: all that the steps yield, one after the other.
use Rattle.std.specs.Prelude.{ℕ, zero, suc, ◌+◌, ◌-◌, ◌/◌, ◌≡◌, Bool, true, cond, ◌&&◌, List, [], ◌∷◌, ◌++◌, map, length, replicate, eqb}
use Rattle.lent.specs.Paper.{Told, value}
use Rattle.lent.specs.Table.{listed}
use Rattle.framedata.specs.Records.{OldFrame, NewFrame, old_record, new_record}
use Rattle.framedata.specs.Frame.{Frame}
use Rattle.framedata.specs.Step.{Pick, old, new, both, lesser, frame, pick_fits, step_spec}
use Rattle.framedata.specs.declared.cursor.FrameCursor.{FrameCursor}

-- a pick, and what follows it: after an old one, after a new one, after both
abbrev pub followed : Pick → List Pick → List Pick → List Pick → List Pick
followed (old o) a b c = old o ∷ a
followed (new n) a b c = new n ∷ b
followed (both n o) a b c = both n o ∷ c

-- two lists of records as one: the lesser code_start first, on equality the new one alone, and both go on
unfoldable pub merge : List OldFrame → List NewFrame → List Pick
merge [] [] = []
merge [] (n ∷ ns) = new n ∷ merge [] ns
merge (o ∷ os) [] = old o ∷ merge os []
merge (o ∷ os) (n ∷ ns) = followed (lesser o n) (merge os (n ∷ ns)) (merge (o ∷ os) ns) (merge os ns)

-- the records from a place on
abbrev pub olds_from : List ℕ → ℕ → List OldFrame
olds_from s i = listed (old_record s) i (length s / 16 - i)

abbrev pub news_from : List ℕ → ℕ → List NewFrame
news_from t j = listed (new_record t) j (length t / 32 - j)

-- what is left to be yielded at a cursor
abbrev pub left : List ℕ → List ℕ → FrameCursor → List Pick
left s t c = merge (olds_from s c.old_index) (news_from t c.new_index)

-- no frame is too large
unfoldable pub all_fit : List Pick → Bool
all_fit [] = true
all_fit (p ∷ l) = pick_fits p && all_fit l

-- what comes before the first frame that is too large
unfoldable pub until_too_large : List Pick → List Pick
until_too_large [] = []
until_too_large (p ∷ l) = cond (pick_fits p) (p ∷ until_too_large l) []

-- the answers of k steps, each with the cursor that the one before it handed on
unfoldable pub answers : ℕ → List ℕ → List ℕ → FrameCursor → List (Told Frame)
answers zero s t c = []
answers (suc k) s t c = (step_spec s t c).answer ∷ answers k s t (step_spec s t c).cursor

-- the cursor that the last of k steps hands on
unfoldable pub cursor_after : ℕ → List ℕ → List ℕ → FrameCursor → FrameCursor
cursor_after zero s t c = c
cursor_after (suc k) s t c = cursor_after k s t (step_spec s t c).cursor

-- the answers that yield each frame
abbrev pub each_frame : List Pick → List (Told Frame)
each_frame l = map (λ (p : Pick). value (frame p)) l

-- From the cursor c the steps yield the frames of l, one after the other. Every further step answers x and hands back
-- the cursor that it was given.
pub record YieldsThen (s t : List ℕ) (c : FrameCursor) (l : List Pick) (x : Told Frame) : Type 0 where
  pub gives : (k : ℕ) → answers (length l + k) s t c ≡ each_frame l ++ replicate k x
  pub stays : (k : ℕ) → cursor_after (length l + k) s t c ≡ cursor_after (length l) s t c

-- the code starts of the frames that are yielded
abbrev pub starts_of : List Pick → List ℕ
starts_of l = map (λ (f : Frame). f.code_start) (map frame l)

-- the new records among what is yielded
unfoldable pub news_of : List Pick → List NewFrame
news_of [] = []
news_of (old o ∷ l) = news_of l
news_of (new n ∷ l) = n ∷ news_of l
news_of (both n o ∷ l) = n ∷ news_of l

-- the old records among what is yielded, and among them, in their places, those that are passed over
unfoldable pub olds_of : List Pick → List OldFrame
olds_of [] = []
olds_of (old o ∷ l) = o ∷ olds_of l
olds_of (new n ∷ l) = olds_of l
olds_of (both n o ∷ l) = o ∷ olds_of l

-- an old record is passed over only for a new one with its code_start
unfoldable pub passed_on_equality : List Pick → Bool
passed_on_equality [] = true
passed_on_equality (old o ∷ l) = passed_on_equality l
passed_on_equality (new n ∷ l) = passed_on_equality l
passed_on_equality (both n o ∷ l) = eqb n.span.code_start o.span.code_start && passed_on_equality l
