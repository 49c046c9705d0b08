-- The paper's numbers of what a window and a step are refused for, and the refusals that they take over.
use Rattle.std.specs.Prelude.{ℕ}
use Rattle.lent.specs.Paper.{number}
use Rattle.lent.specs.declared.refusal.SumRefusal.{SumRefusal}
use Rattle.lent.specs.declared.refusal.SumRefusal.TheVariants as sum
use Rattle.omap.specs.declared.windows.WindowRefusal.{WindowRefusal}
use Rattle.omap.specs.declared.windows.WindowRefusal.TheVariants as window
use Rattle.omap.specs.declared.cursor.StepRefusal.{StepRefusal}
use Rattle.omap.specs.declared.cursor.StepRefusal.TheVariants as step

abbrev pub window_number : WindowRefusal → ℕ
window_number (window.Table why) = number why
window_number window.TooLarge = 4
window_number (window.Short n) = 5

abbrev pub of_sum : SumRefusal → WindowRefusal
of_sum (sum.Table why) = window.Table why
of_sum sum.TooLarge = window.TooLarge

abbrev pub step_number : StepRefusal → ℕ
step_number (step.Table why) = number why
step_number step.Early = 6
step_number step.TooLarge = 4
